use Rattle.std.proofs.Common.{◌≡◌, List, ℕ, [], length, unwrap_or, sym, ap, subst, ◌∙◌, arith}
use Rattle.std.specs.Map.{lookup}
use Rattle.std.specs.BTreeMap.{is_at}
use Rattle.std.specs.Ordering.{nat_cmp}
use Rattle.judy_model.specs.Keys.{word_order}
use Rattle.judy_model.specs.Arrays.{ArrayOf, with_map, write}
use Rattle.judy_records.specs.Texts.{words_of, words_for}
use Rattle.judy_records.specs.Spots.{RecordList, held, empty_list, put_at}
use Rattle.judy_hs.specs.Chains.{Pairs}
use Rattle.judy_hs.specs.LongGroups.{one_word}
use Rattle.judy_hs.specs.LongRecords.{others_at, all_pairs, AreLongRecords}
use Rattle.judy_hs.proofs.LongLemmas.{bytes_are}
use Rattle.judy_hs.proofs.LongPuts.{one_record, one-pairs, one-are}
use Rattle.judy_hs.proofs.long_group.LongGroup.of.Goals as goal

pub invariant_of-result : goal.invariant_of-result
invariant_of-result c =
    let none : (place : ℕ) → others_at c.new.result place ≡ [] = λ place. ap (λ (entries : List (ℕ × Pairs)). unwrap_or (lookup (is_at (nat_cmp place)) entries) []) c.new.ensures.empty in
    let bytes = bytes_are c.args.key.now (λ i. omega (arith, c.type_inv.key i)) in
    let made : c.put-2.new.self ≡ one_word c.args.hash 0 = c.in_ok-put-2.ensures.put ∙ ap (λ (array : ArrayOf word_order). with_map array (write array.map c.args.hash 0)) c.unbounded-hashes.ensures in
    let empty : c.new-records.result ≡ empty_list (words_for (length c.args.key.now)) = c.new-records.ensures ∙ ap empty_list c.words_for.ensures in
    let list : c.put.new.self ≡ one_record c.new.result none c.args.hash c.args.key.now bytes c.put.new.self.next c.put.new.self.memory =
    λ i. record {
      size = (c.put.ensures.size ∙ ap (λ (list : RecordList). list.size) empty) i;
      spots = (c.in_ok-put.ensures.put ∙ ap (λ (list : RecordList). put_at list.spots list.next (held 0 (words_of c.args.key.now))) empty) i;
      next = c.put.new.self.next;
      memory = c.put.new.self.memory;
    } in
    subst (λ (array : ArrayOf word_order). AreLongRecords array.map (length c.args.key.now) c.new.result c.put.new.self) (sym made)
    (subst (λ (records : RecordList). AreLongRecords (one_word c.args.hash 0).map (length c.args.key.now) c.new.result records) (sym list)
    (one-are c.new.result none c.args.hash c.args.key.now bytes c.put.new.self.next c.put.new.self.memory))

pub returns : goal.returns
returns c =
    let none : (place : ℕ) → others_at c.new.result place ≡ [] = λ place. ap (λ (entries : List (ℕ × Pairs)). unwrap_or (lookup (is_at (nat_cmp place)) entries) []) c.new.ensures.empty in
    let bytes = bytes_are c.args.key.now (λ i. omega (arith, c.type_inv.key i)) in
    let made : c.put-2.new.self ≡ one_word c.args.hash 0 = c.in_ok-put-2.ensures.put ∙ ap (λ (array : ArrayOf word_order). with_map array (write array.map c.args.hash 0)) c.unbounded-hashes.ensures in
    let empty : c.new-records.result ≡ empty_list (words_for (length c.args.key.now)) = c.new-records.ensures ∙ ap empty_list c.words_for.ensures in
    let list : c.put.new.self ≡ one_record c.new.result none c.args.hash c.args.key.now bytes c.put.new.self.next c.put.new.self.memory =
    λ i. record {
      size = (c.put.ensures.size ∙ ap (λ (list : RecordList). list.size) empty) i;
      spots = (c.in_ok-put.ensures.put ∙ ap (λ (list : RecordList). put_at list.spots list.next (held 0 (words_of c.args.key.now))) empty) i;
      next = c.put.new.self.next;
      memory = c.put.new.self.memory;
    } in
    let pairs = ap (all_pairs (length c.args.key.now) c.new.result) list ∙ one-pairs c.new.result none c.args.hash c.args.key.now bytes c.put.new.self.next c.put.new.self.memory in
    λ t. record { key_length = length c.args.key.now; hashes = made t; chains = pairs t }
