-- Keys that are the same as a word but for their lowest bytes: how many there are in a block of words, and beside it.
use Rattle.std.proofs.Common.{◌≡◌, ◌≢◌, ℕ, zero, suc, ◌+◌, ◌-◌, ◌*◌, ◌/◌, ◌%◌, ◌^◌, ◌<◌, ◌≤◌, ◌⊎◌, inl, inr, ⊎_elim, true, false, cond, eqb, List, [], ◌∷◌, ◌++◌, length, sym, refl}
use Rattle.std.proofs.Common.{ap, ◌∙◌, subst, arith}
use Rattle.std.proofs.Math.Nat.{add-mul, div-div-eq-div-mul, div-one}
use Rattle.std.proofs.lemmas.Nat.{pow-add, div-mul-add, le-div}
use Rattle.std.proofs.lemmas.Bool.{eq-eqb, ne_eqb}
use Rattle.std.proofs.lemmas.Bool.Decides.{eqb_tells}
use Rattle.judy_model.specs.Forms.{raise}
use Rattle.judy_model.specs.Shapes.{AllBelow}
use Rattle.judy_model.specs.Ways.{alike, Ascends}
use Rattle.judy_model.proofs.lemmas.orders.ByteLemmas.{unit_pos}

-- All keys stand in one block of so many words.
abbrev pub InBlock : ℕ → ℕ → List ℕ → Type 0
InBlock unit block [] = Unit {0}
InBlock unit block (key ∷ keys) = (key / unit ≡ block) × InBlock unit block keys

-- No key stands before a block.
abbrev pub FromBlock : ℕ → ℕ → List ℕ → Type 0
FromBlock unit block [] = Unit {0}
FromBlock unit block (key ∷ keys) = (block ≤ key / unit) × FromBlock unit block keys

-- ---- how many are alike

alike-same : (unit word key : ℕ) (keys : List ℕ) → key / unit ≡ word / unit → alike unit word (key ∷ keys) ≡ 1 + alike unit word keys
alike-same unit word key keys same = ap (λ b. cond b 1 0 + alike unit word keys) (eq-eqb (key / unit) (word / unit) same)

alike-apart : (unit word key : ℕ) (keys : List ℕ) → key / unit ≢ word / unit → alike unit word (key ∷ keys) ≡ 0 + alike unit word keys
alike-apart unit word key keys apart = ap (λ b. cond b 1 0 + alike unit word keys) (ne_eqb (key / unit) (word / unit) apart)

pub alike-append : (unit word : ℕ) (one other : List ℕ) → alike unit word (one ++ other) ≡ alike unit word one + alike unit word other
alike-append unit word [] other = omega arith
alike-append unit word (key ∷ one) other = let rest = alike-append unit word one other in omega arith

pub alike-most : (unit word : ℕ) (keys : List ℕ) → alike unit word keys ≤ length keys
alike-most unit word [] = omega arith
alike-most unit word (key ∷ keys) =
    let rest = alike-most unit word keys in
    ⊎_elim
    (λ (h : (eqb (key / unit) (word / unit) ≡ true) × (key / unit ≡ word / unit)). let here = alike-same unit word key keys h.1 in omega arith)
    (λ (h : (eqb (key / unit) (word / unit) ≡ false) × (key / unit ≢ word / unit)). let here = alike-apart unit word key keys h.1 in omega arith)
    (eqb_tells (key / unit) (word / unit))

-- All of a block are alike to a word of the block.
pub alike-all : (unit block word : ℕ) (keys : List ℕ) → InBlock unit block keys → word / unit ≡ block → alike unit word keys ≡ length keys
alike-all unit block word [] within here = refl
alike-all unit block word (key ∷ keys) within here =
    let first = alike-same unit word key keys (within.0 ∙ sym here) in
    let rest = alike-all unit block word keys within.1 here in
    omega arith

-- The block of a word in larger blocks.
larger : (word small more : ℕ) → word / small / more ≡ word / (small * more)
larger word small more = div-div-eq-div-mul word small more

-- Of a larger block none is alike to a word that stands elsewhere.
alike-elsewhere : (small more block word : ℕ) (keys : List ℕ) → InBlock (small * more) block keys → word / (small * more) ≢ block → alike small word keys ≡ 0
alike-elsewhere small more block word [] within apart = refl
alike-elsewhere small more block word (key ∷ keys) within apart =
    let first = alike-apart small word key keys (λ (same : key / small ≡ word / small).
    apart (sym (larger word small more) ∙ ap (λ q. q / more) (sym same) ∙ larger key small more ∙ within.0)) in
    let rest = alike-elsewhere small more block word keys within.1 apart in
    omega arith

-- Nor is one to a word that stands before them all.
alike-before : (small more block word : ℕ) (keys : List ℕ) → FromBlock (small * more) block keys → word / (small * more) < block → alike small word keys ≡ 0
alike-before small more block word [] from before = refl
alike-before small more block word (key ∷ keys) from before =
    let first = alike-apart small word key keys (λ (same : key / small ≡ word / small).
    let blocks : word / (small * more) ≡ key / (small * more) = sym (larger word small more) ∙ ap (λ q. q / more) (sym same) ∙ larger key small more in
    let low = from.0 in
    omega arith) in
    let rest = alike-before small more block word keys from.1 before in
    omega arith

-- ---- by numbers of bytes

-- A block of more bytes is made of blocks of fewer.
pub pow-split : (few many : ℕ) → few ≤ many → 256 ^ many ≡ 256 ^ few * 256 ^ (many - few)
pow-split few many fewer = ap (λ n. 256 ^ n) (let e : many ≡ few + (many - few) = omega arith in e) ∙ pow-add 256 few (many - few)

pub none_elsewhere : (few many block word : ℕ) (keys : List ℕ) → few ≤ many → InBlock (256 ^ many) block keys → word / 256 ^ many ≢ block → alike (256 ^ few) word keys ≡ 0
none_elsewhere few many block word keys fewer within apart =
    alike-elsewhere (256 ^ few) (256 ^ (many - few)) block word keys (subst (λ unit. InBlock unit block keys) (pow-split few many fewer) within)
    (λ (same : word / (256 ^ few * 256 ^ (many - few)) ≡ block). apart (ap (λ unit. word / unit) (pow-split few many fewer) ∙ same))

none_before : (few many block word : ℕ) (keys : List ℕ) → few ≤ many → FromBlock (256 ^ many) block keys → word / 256 ^ many < block → alike (256 ^ few) word keys ≡ 0
none_before few many block word keys fewer from before =
    alike-before (256 ^ few) (256 ^ (many - few)) block word keys (subst (λ unit. FromBlock unit block keys) (pow-split few many fewer) from)
    (subst (λ unit. word / unit < block) (pow-split few many fewer) before)

InBlock-larger : (unit more block : ℕ) (keys : List ℕ) → InBlock unit block keys → InBlock (unit * more) (block / more) keys
InBlock-larger unit more block [] within = tt
InBlock-larger unit more block (key ∷ keys) within = (sym (larger key unit more) ∙ ap (λ q. q / more) within.0, InBlock-larger unit more block keys within.1)

-- Where some keys of a block are alike to a word, the word stands in it.
pub alike_within : (few many block word : ℕ) (keys : List ℕ) → few ≤ many → InBlock (256 ^ many) block keys → 0 < alike (256 ^ few) word keys → word / 256 ^ many ≡ block
alike_within few many block word keys fewer within some =
    ⊎_elim
    (λ (h : (eqb (word / 256 ^ many) block ≡ true) × (word / 256 ^ many ≡ block)). h.1)
    (λ (h : (eqb (word / 256 ^ many) block ≡ false) × (word / 256 ^ many ≢ block)).
    let none = none_elsewhere few many block word keys fewer within h.1 in let never : ⊥ = omega arith in absurd never)
    (eqb_tells (word / 256 ^ many) block)

-- Of a block, in larger ones all keys are alike to a word, or none.
pub alike_whole : (few many block word : ℕ) (keys : List ℕ) → few ≤ many → InBlock (256 ^ few) block keys → 0 < alike (256 ^ many) word keys → alike (256 ^ many) word keys ≡ length keys
alike_whole few many block word keys fewer within some =
    let inner : InBlock (256 ^ many) (block / 256 ^ (many - few)) keys =
    subst (λ unit. InBlock unit (block / 256 ^ (many - few)) keys) (sym (pow-split few many fewer)) (InBlock-larger (256 ^ few) (256 ^ (many - few)) block keys within) in
    alike-all (256 ^ many) (block / 256 ^ (many - few)) word keys inner
    (alike_within many many (block / 256 ^ (many - few)) word keys (omega arith) inner some)

-- Of keys in a block, and keys behind it, only one part is alike to a word.
pub one_of_two : (few many block word : ℕ) (front behind : List ℕ) → few ≤ many → InBlock (256 ^ many) block front → FromBlock (256 ^ many) (block + 1) behind
    → (alike (256 ^ few) word behind ≡ 0) ⊎ (alike (256 ^ few) word front ≡ 0)
one_of_two few many block word front behind fewer within from =
    ⊎_elim
    (λ (h : (eqb (word / 256 ^ many) block ≡ true) × (word / 256 ^ many ≡ block)).
    let here = h.1 in inl (none_before few many (block + 1) word behind fewer from (omega arith)))
    (λ (h : (eqb (word / 256 ^ many) block ≡ false) × (word / 256 ^ many ≢ block)). inr (none_elsewhere few many block word front fewer within h.1))
    (eqb_tells (word / 256 ^ many) block)

-- ---- keys that are moved, and that ascend

pub InBlock-raise : (unit block base : ℕ) (keys : List ℕ) → base ≡ block * unit → AllBelow unit keys → InBlock unit block (raise base keys)
InBlock-raise unit block base [] is below = tt
InBlock-raise unit block base (key ∷ keys) is below = (ap (λ b. (b + key) / unit) is ∙ div-mul-add block unit key below.0, InBlock-raise unit block base keys is below.1)

pub FromBlock-in : (unit block low : ℕ) (keys : List ℕ) → low ≤ block → InBlock unit block keys → FromBlock unit low keys
FromBlock-in unit block low [] least within = tt
FromBlock-in unit block low (key ∷ keys) least within = ((let here = within.0 in omega arith), FromBlock-in unit block low keys least within.1)

pub FromBlock-append : (unit low : ℕ) (one other : List ℕ) → FromBlock unit low one → FromBlock unit low other → FromBlock unit low (one ++ other)
FromBlock-append unit low [] other front behind = behind
FromBlock-append unit low (key ∷ one) other front behind = (front.0, FromBlock-append unit low one other front.1 behind)

pub FromBlock-less : (unit high low : ℕ) (keys : List ℕ) → low ≤ high → FromBlock unit high keys → FromBlock unit low keys
FromBlock-less unit high low [] less from = tt
FromBlock-less unit high low (key ∷ keys) less from = ((let here = from.0 in omega arith), FromBlock-less unit high low keys less from.1)

pub Ascends-raise : (base low start : ℕ) (keys : List ℕ) → start ≡ base + low → Ascends low keys → Ascends start (raise base keys)
Ascends-raise base low start [] is up = tt
Ascends-raise base low start (key ∷ keys) is up =
    ((let first = up.0 in omega arith), Ascends-raise base (key + 1) (base + key + 1) keys (let e : base + key + 1 ≡ base + (key + 1) = omega arith in e) up.1)

alone-before : (word low : ℕ) (keys : List ℕ) → word < low → Ascends low keys → alike 1 word keys ≡ 0
alone-before word low [] before up = refl
alone-before word low (key ∷ keys) before up =
    let least = up.0 in
    let first = alike-apart 1 word key keys (λ (same : key / 1 ≡ word / 1). let e : key ≡ word = sym (div-one key) ∙ same ∙ div-one word in omega arith) in
    let rest = alone-before word (key + 1) keys (omega arith) up.1 in
    omega arith

-- Only one key is the same as a word in all its bytes.
pub alike_alone : (word low : ℕ) (keys : List ℕ) → Ascends low keys → alike 1 word keys ≤ 1
alike_alone word low [] up = omega arith
alike_alone word low (key ∷ keys) up =
    ⊎_elim
    (λ (h : (eqb (key / 1) (word / 1) ≡ true) × (key / 1 ≡ word / 1)).
    let e : key ≡ word = sym (div-one key) ∙ h.1 ∙ div-one word in
    let first = alike-same 1 word key keys h.1 in
    let rest = alone-before word (key + 1) keys (omega arith) up.1 in
    omega arith)
    (λ (h : (eqb (key / 1) (word / 1) ≡ false) × (key / 1 ≢ word / 1)).
    let first = alike-apart 1 word key keys h.1 in
    let rest = alike_alone word (key + 1) keys up.1 in
    omega arith)
    (eqb_tells (key / 1) (word / 1))
