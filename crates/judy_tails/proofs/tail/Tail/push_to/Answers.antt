use Rattle.std.proofs.Common.{◌+◌, ◌++◌, ◌%◌, ◌≢◌, subst, [], ◌∷◌, get_or, take, length, ap, sym, ◌∙◌, arith}
use Rattle.std.proofs.lemmas.List.{length-append, append_assoc, append-nil, take_all}
use Rattle.judy_records.specs.Texts.{text_in}
use Rattle.judy_tails.proofs.TailLemmas.{text-none, text-more, text-within, whole-full, whole-begins}
use Rattle.judy_tails.proofs.Writing.{stays-beyond}
use Rattle.judy_tails.specs.Inside.{BeginsText}
use Rattle.judy_tails.proofs.tail.Tail.push_to.Goals as goal

pub loop-word-init : goal.loop-word-init
loop-word-init g c = record {
  len = let none = ap length text-none in omega (arith, none);
  has = λ front is. subst (g.K.KeyWriter.has c.args.key.now) (sym (ap (λ text. front ++ text) text-none ∙ append-nil front)) is;
  beyond = search;
}

pub push_bytes-requires-clause-full : goal.push_bytes-requires-clause-full
push_bytes-requires-clause-full g c = λ some.
    let words = c.text-word-items.result.now in
    let at = c.loop-word.word-index in
    let same = c.text-word-items.ensures in
    ap (λ words. length (text_in (get_or words at 0 ∷ []))) same
    ∙ whole-full c.self.inside.stored c.self.invariant at (omega (arith, c.loop-word-test.true, ap length same)) (subst (λ words. get_or words at 0 % 256 ≢ 0) same some)

pub push_bytes-requires-clause-begins : goal.push_bytes-requires-clause-begins
push_bytes-requires-clause-begins g c =
    let at = c.loop-word.word-index in
    let same = c.text-word-items.ensures in
    subst (λ words. BeginsText (get_or words at 0)) (sym same) (whole-begins c.self.inside.stored c.self.invariant at (omega (arith, c.loop-word-test.true, ap length same)))

pub push_bytes-requires-clause-room : goal.push_bytes-requires-clause-room
push_bytes-requires-clause-room g c =
    let words = c.text-word-items.result.now in
    let at = c.loop-word.word-index in
    let long = c.loop-word.invariant.len in
    let within = text-within words at c.loop-word-test.true in
    let all = ap (λ words. length (text_in words)) c.text-word-items.ensures ∙ ap (λ tail. length tail.0) c.self.view_is in
    omega (arith, long, within, all, c.requires)

pub loop-word-preserved : goal.loop-word-preserved
loop-word-preserved g c =
    let words = c.text-word-items.result.now in
    let at = c.loop-word.word-index in
    let more = text_in (get_or words at 0 ∷ []) in
    let on = sym (text-more words at c.loop-word-test.true) in
    record {
      len =
          let both = ap length on in
          let two = length-append (text_in (take at words)) more in
          omega (arith, c.push_bytes.ensures.len, c.loop-word.invariant.len, both, two);
      has = λ front is.
          subst (g.K.KeyWriter.has c.push_bytes.new.key) (append_assoc front (text_in (take at words)) more ∙ ap (λ text. front ++ text) on)
          (c.push_bytes.ensures.has (front ++ text_in (take at words)) (c.loop-word.invariant.has front is));
      beyond =
          stays-beyond g.K.KeyWriter.len g.K.KeyWriter.beyond c.args.key.now c.loop-word.key c.push_bytes.new.key (length more) c.push_bytes.ensures.len
          c.loop-word.invariant.beyond c.push_bytes.ensures.beyond;
    }

pub returns : goal.returns
returns g c =
    let all = ap text_in (take_all c.loop-word.word-index c.text-word-items.result.now c.loop-word-test.false ∙ c.text-word-items.ensures) ∙ ap (λ tail. tail.0) c.self.view_is in
    record {
      len = c.loop-word.invariant.len ∙ ap (λ text. g.K.KeyWriter.len c.args.key.now + length text) all;
      has = λ front is. subst (λ text. g.K.KeyWriter.has c.loop-word.key (front ++ text)) all (c.loop-word.invariant.has front is);
      beyond = c.loop-word.invariant.beyond;
    }
