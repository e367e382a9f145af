use Rattle.std.proofs.Common.{◌≡◌, ℕ, length, take, drop, All, ◌∙◌, sym, ap, subst, arith}
use Rattle.std.specs.FinMap.{FinMap, entries, len-entries}
use Rattle.std.proofs.lemmas.List.{length-drop}
use Rattle.std.proofs.lemmas.List.Elements.{All-drop}
use Rattle.judy_model.specs.Keys.{word_order}
use Rattle.judy_model.specs.Counts.{rank}
use Rattle.judy_sums.specs.Pairs.{Pairs}
use Rattle.judy_sl.specs.Arenas.{world_of}
use Rattle.judy_sl.specs.Counted.{LeadsOn, keys_behind_all}
use Rattle.judy_sl.proofs.arena.Arena.keys_from.Goals as goal

-- The entries from a piece on, as the array of the level has them, are those of the level.
rest_is : (words array : FinMap word_order ℕ) → array ≡ words → (piece : ℕ) (rest : Pairs) → rest ≡ drop (rank array piece) (entries array) → rest ≡ drop (rank words piece) (entries words)
rest_is words array same piece rest is = is ∙ ap (λ (all : FinMap word_order ℕ). drop (rank all piece) (entries all)) same

pub returns-then-count-eq0 : goal.returns-then-count-eq0
returns-then-count-eq0 c =
    sym (ap (λ n. keys_behind_all (world_of c.args.self.now) (take n (drop (rank c.args.level.now.map c.args.piece) (entries c.args.level.now.map)))) c.if-count-eq0.true)

pub read_keys-requires-clause-leads : goal.read_keys-requires-clause-leads
read_keys-requires-clause-leads c =
    let words = c.args.level.now.map in
    let rest = rest_is words c.array.result.now.map c.array.ensures.map c.args.piece c.iter_from.result c.iter_from.ensures in
    subst (λ (all : Pairs). All (LeadsOn (world_of c.args.self.now)) all) (sym rest) (All-drop (LeadsOn (world_of c.args.self.now)) (rank words c.args.piece) (entries words) c.requires.leads)

pub read_keys-requires-clause-there : goal.read_keys-requires-clause-there
read_keys-requires-clause-there c =
    let words = c.args.level.now.map in
    let rest = rest_is words c.array.result.now.map c.array.ensures.map c.args.piece c.iter_from.result c.iter_from.ensures in
    let there = c.requires.there in
    let long = ap length rest ∙ length-drop (rank words c.args.piece) (entries words) in
    let all = len-entries words in
    omega arith

pub read_keys-requires-clause-fits : goal.read_keys-requires-clause-fits
read_keys-requires-clause-fits c =
    let rest = rest_is c.args.level.now.map c.array.result.now.map c.array.ensures.map c.args.piece c.iter_from.result c.iter_from.ensures in
    let same = ap (λ (all : Pairs). keys_behind_all (world_of c.args.self.now) (take c.args.count all)) rest in
    let fits = c.requires.fits in
    omega arith

pub returns : goal.returns
returns c =
    let rest = rest_is c.args.level.now.map c.array.result.now.map c.array.ensures.map c.args.piece c.iter_from.result c.iter_from.ensures in
    c.read_keys.ensures ∙ ap (λ (all : Pairs). keys_behind_all (world_of c.args.self.now) (take c.args.count all)) rest
