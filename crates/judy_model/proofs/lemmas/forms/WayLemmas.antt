-- The nodes on the way of a word in the rule's form: one holds 33 keys exactly where 33 keys are the same as the word but for some number of
-- lowest bytes.
use Rattle.std.proofs.Common.{◌≡◌, ℕ, zero, suc, ◌+◌, ◌-◌, ◌*◌, ◌/◌, ◌^◌, ◌<◌, ◌≤◌, ◌⊎◌, ◌↔◌, inl, inr, ⊎_elim, List, [], ◌∷◌, ◌++◌, length, sym, refl, ap, ◌∙◌, subst, arith}
use Rattle.std.proofs.Common.{append_assoc, length-append}
use Rattle.std.proofs.Math.Nat.{add-mul, mul_assoc, pow-succ', mul-div_cancel, zero-div}
use Rattle.std.proofs.lemmas.Nat.{pow-add}
use Rattle.std.proofs.lemmas.List.{append-nil}
use Rattle.std.proofs.lemmas.Bool.{cases_lt}
use Rattle.judy_model.specs.WordBytes.{number_of}
use Rattle.judy_model.specs.Forms.{bitmap_leaf, Form, Place, raise, places_of}
use Rattle.judy_model.specs.Shapes.{Bucket, buckets_of, bytes_of, forms_of, split_by, form_behind, form_of, AllBelow}
use Rattle.judy_model.specs.Ways.{LeadsTo, HoldsAt, HoldsOnWay, alike, AreAlike, Ascends}
use Rattle.judy_model.proofs.lemmas.orders.ByteLemmas.{unit_pos}
use Rattle.judy_model.proofs.lemmas.forms.FormLemmas.{immediate_limit_small, by_number-cases, raise-zero, length-raise, joined, joined-buckets_of, number_of-push}
use Rattle.judy_model.proofs.lemmas.queries.AlikeLemmas.{InBlock, FromBlock, alike-append, alike-most, alike-all, alike_within, alike_whole, one_of_two, InBlock-raise, Ascends-raise, alike_alone}
use Rattle.judy_model.proofs.lemmas.forms.BucketChains.{AreChained, chain-buckets_of, start-block, FromBlock-joined}

-- 33 keys that are alike.
abbrev Has : ℕ → ℕ → List ℕ → Type 0
Has width word keys = AreAlike 33 width word keys

-- ---- one node

-- A node of few keys holds no 33, and no 33 of its keys are alike.
few_way : (Leads Rest : Type 0) (wide word : ℕ) (keys there : List ℕ) → length keys ≤ 32 → length there ≡ length keys
    → ((Leads × (length keys ≡ 33)) ⊎ Rest) ↔ (Has wide word there ⊎ Rest)
few_way Leads Rest wide word keys there few same = (
  λ one. ⊎_elim (λ (h : Leads × (length keys ≡ 33)). let e = h.1 in let never : ⊥ = omega arith in absurd never) (λ rest. inr rest) one,
  λ other. ⊎_elim (λ (h : Has wide word there). let e = h.2 in let most = alike-most (256 ^ h.0) word there in let never : ⊥ = omega arith in absurd never) (λ rest. inr rest) other,
)

-- A node on the way that holds 33 keys: they are alike but for all bytes of its place.
whole_way : (from block wide word : ℕ) (keys : List ℕ) → from ≡ block * 256 ^ wide → InBlock (256 ^ wide) block keys → LeadsTo word (from, wide) → length keys ≡ 33 → Has wide word keys
whole_way from block wide word keys is within leads many =
    let start : from / 256 ^ wide ≡ block = ap (λ n. n / 256 ^ wide) is ∙ mul-div_cancel block (unit_pos wide) in
    (wide, (let e : wide ≤ wide = omega arith in e), alike-all (256 ^ wide) block word keys within (leads ∙ start) ∙ many)

-- The way back, where the keys stand in a block of no more bytes than those in which they differ from the word.
node_way : (from block wide word part few bytes : ℕ) (keys : List ℕ) → from ≡ block * 256 ^ wide → InBlock (256 ^ wide) block keys → InBlock (256 ^ few) part keys
    → few ≤ bytes → bytes ≤ wide → alike (256 ^ bytes) word keys ≡ 33 → LeadsTo word (from, wide) × (length keys ≡ 33)
node_way from block wide word part few bytes keys is within inner least most same =
    let start : from / 256 ^ wide ≡ block = ap (λ n. n / 256 ^ wide) is ∙ mul-div_cancel block (unit_pos wide) in (
      alike_within bytes wide block word keys most within (omega arith) ∙ sym start,
      sym (alike_whole few bytes part word keys least inner (omega arith)) ∙ same,
    )

-- ---- the parts of a branch

-- The form of keys behind skipped bytes, put at a place, tells whether 33 of the keys are alike to a word.
abbrev TellsWay : (List ℕ → List ℕ → Form) → ℕ → Type 0
TellsWay form width =
    (from block wide base word : ℕ) (skipped keys : List ℕ) (places : List Place) (nodes : Form)
    → from ≡ block * 256 ^ wide → wide ≡ length skipped + width → base ≡ from + number_of skipped * 256 ^ width
    → 0 < length keys → (skipped ≡ []) ⊎ (32 < length keys) → AllBelow (256 ^ width) keys → Ascends 0 keys → InBlock (256 ^ wide) block (raise base keys)
    → HoldsAt 33 word ((from, wide) ∷ places) (form skipped keys ++ nodes) ↔ (Has wide word (raise base keys) ⊎ HoldsAt 33 word places nodes)

-- 33 keys that are alike stand in one of two parts.
part_way : (width block word : ℕ) (front behind : List ℕ) (bytes : ℕ) → bytes ≤ width
    → (alike (256 ^ bytes) word behind ≡ 0) ⊎ (alike (256 ^ bytes) word front ≡ 0)
    → alike (256 ^ bytes) word (front ++ behind) ≡ 33 → Has width word front ⊎ Has width word behind
part_way width block word front behind bytes within either sum =
    let both = alike-append (256 ^ bytes) word front behind in
    ⊎_elim
    (λ (none : alike (256 ^ bytes) word behind ≡ 0). inl (bytes, within, (let e : alike (256 ^ bytes) word front ≡ 33 = omega arith in e)))
    (λ (none : alike (256 ^ bytes) word front ≡ 0). inr (bytes, within, (let e : alike (256 ^ bytes) word behind ≡ 33 = omega arith in e)))
    either

-- And 33 of one part, where none stands in the other, are those of both.
joined_way : (width word : ℕ) (front behind : List ℕ) (bytes : ℕ) → bytes ≤ width
    → (alike (256 ^ bytes) word behind ≡ 0) ⊎ (alike (256 ^ bytes) word front ≡ 0)
    → (alike (256 ^ bytes) word front ≡ 33) ⊎ (alike (256 ^ bytes) word behind ≡ 33) → Has width word (front ++ behind)
joined_way width word front behind bytes within either here =
    (bytes, within, both_ways (alike (256 ^ bytes) word front) (alike (256 ^ bytes) word behind) either here (alike-append (256 ^ bytes) word front behind))
  where
    both_ways : (one other : ℕ) → (other ≡ 0) ⊎ (one ≡ 0) → (one ≡ 33) ⊎ (other ≡ 33) → {sum : ℕ} → sum ≡ one + other → sum ≡ 33
    both_ways one other (inl none) (inl here) is = omega arith
    both_ways one other (inl none) (inr here) is = absurd (omega arith)
    both_ways one other (inr none) (inl here) is = absurd (omega arith)
    both_ways one other (inr none) (inr here) is = omega arith

buckets_way : (form : List ℕ → List ℕ → Form) (width from whole block low word : ℕ) (buckets : List Bucket) (places : List Place) (nodes : Form)
    → TellsWay form width → from ≡ whole * 256 ^ width → AreChained (256 ^ width) low buckets
    → HoldsAt 33 word (places_of from width block (bytes_of buckets) ++ places) (forms_of (form []) buckets ++ nodes)
    ↔ (Has width word (joined from block (256 ^ width) buckets) ⊎ HoldsAt 33 word places nodes)
buckets_way form width from whole block low word [] places nodes tells is chain =
    (λ rest. inr rest, λ other. ⊎_elim (λ (h : Has width word []). let e = h.2 in let never : ⊥ = omega arith in absurd never) (λ rest. rest) other)
buckets_way form width from whole block low word (bucket ∷ buckets) places nodes tells is chain =
    let unit = 256 ^ width in
    let start = from + (block + bucket.0) * unit in
    let behind = joined from block unit buckets in
    let front = raise start bucket.1 in
    let begins = start-block unit from whole block bucket.0 is in
    let within : InBlock unit (whole + (block + bucket.0)) front = InBlock-raise unit (whole + (block + bucket.0)) start bucket.1 begins chain.2 in
    let later = subst (λ n. FromBlock unit n behind) (let e : whole + block + (bucket.0 + 1) ≡ whole + (block + bucket.0) + 1 = omega arith in e)
    (FromBlock-joined unit from whole block (bucket.0 + 1) buckets is chain.4) in
    let other_places = places_of from width block (bytes_of buckets) ++ places in
    let other_nodes = forms_of (form []) buckets ++ nodes in
    let here : HoldsAt 33 word ((start, width) ∷ other_places) (form [] bucket.1 ++ other_nodes) ↔ (Has width word front ⊎ HoldsAt 33 word other_places other_nodes) =
    tells start (whole + (block + bucket.0)) width start word [] bucket.1 other_places other_nodes begins (omega arith) (omega arith) chain.1 (inl refl) chain.2 chain.3 within in
    let rest = buckets_way form width from whole block (bucket.0 + 1) word buckets places nodes tells is chain.4 in
    let assoc = append_assoc (form [] bucket.1) (forms_of (form []) buckets) nodes in
    let sides = λ (bytes : ℕ) (fewer : bytes ≤ width). one_of_two bytes width (whole + (block + bucket.0)) word front behind fewer within later in (
      λ one. ⊎_elim
          (λ (h : Has width word front). inl (joined_way width word front behind h.0 h.1 (sides h.0 h.1) (inl h.2)))
          (λ further. ⊎_elim
          (λ (h : Has width word behind). inl (joined_way width word front behind h.0 h.1 (sides h.0 h.1) (inr h.2)))
          (λ last. inr last)
          (rest.0 further))
          (here.0 (subst (λ form. HoldsAt 33 word ((start, width) ∷ other_places) form) assoc one)),
      λ other. subst (λ form. HoldsAt 33 word ((start, width) ∷ other_places) form) (sym assoc) (here.1 (⊎_elim
          (λ (h : Has width word (front ++ behind)). ⊎_elim (λ (a : Has width word front). inl a) (λ (b : Has width word behind). inr (rest.1 (inl b)))
          (part_way width (whole + (block + bucket.0)) word front behind h.0 h.1 (sides h.0 h.1) h.2))
          (λ last. inr (rest.1 (inr last)))
          other)),
    )

-- ---- a branch

-- A base that skips bytes begins with a whole block of the bytes behind these.
base_block : (from block wide base width : ℕ) (skipped : List ℕ) → from ≡ block * 256 ^ wide → width ≤ wide → base ≡ from + number_of skipped * 256 ^ width
    → base ≡ (block * 256 ^ (wide - width) + number_of skipped) * 256 ^ width
base_block from block wide base width skipped is narrow begins =
    let unit : block * 256 ^ wide ≡ block * 256 ^ (wide - width) * 256 ^ width =
    ap (λ n. block * 256 ^ n) (let e : wide ≡ wide - width + width = omega arith in e) ∙ ap (λ u. block * u) (pow-add 256 (wide - width) width) ∙
    sym (mul_assoc block (256 ^ (wide - width)) (256 ^ width)) in
    let spread = add-mul (block * 256 ^ (wide - width)) (number_of skipped) (256 ^ width) in
    omega arith

whole_block : (from block wide width : ℕ) → from ≡ block * 256 ^ wide → width ≤ wide → from ≡ block * 256 ^ (wide - width) * 256 ^ width
whole_block from block wide width is narrow =
    is ∙ ap (λ n. block * 256 ^ n) (let e : wide ≡ wide - width + width = omega arith in e) ∙ ap (λ u. block * u) (pow-add 256 (wide - width) width) ∙
    sym (mul_assoc block (256 ^ (wide - width)) (256 ^ width))

split_way : (form : List ℕ → List ℕ → Form) (width from block wide base word : ℕ) (skipped : List ℕ) (keys : List ℕ) (buckets : List Bucket) (places : List Place) (nodes : Form)
    → TellsWay form width → from ≡ block * 256 ^ wide → wide ≡ length skipped + suc width → base ≡ from + number_of skipped * 256 ^ suc width
    → 32 < length keys → AllBelow (256 ^ suc width) keys → InBlock (256 ^ wide) block (raise base keys)
    → AreChained (256 ^ width) 0 buckets → joined from (number_of skipped * 256) (256 ^ width) buckets ≡ raise base keys
    → HoldsAt 33 word ((from, wide) ∷ places) (split_by form skipped (length keys) buckets ++ nodes) ↔ (Has wide word (raise base keys) ⊎ HoldsAt 33 word places nodes)
split_way form width from block wide base word skipped keys [] places nodes tells is long begins many below within chain same =
    let lengths = ap length same ∙ length-raise base keys in
    let never : ⊥ = omega arith in absurd never
split_way form width from block wide base word skipped keys (bucket ∷ []) places nodes tells is long begins many below within chain same =
    let start = from + (number_of skipped * 256 + bucket.0) * 256 ^ width in
    let alone : raise start bucket.1 ≡ raise base keys = sym (append-nil (raise start bucket.1)) ∙ same in
    let lengths : length bucket.1 ≡ length keys = sym (length-raise start bucket.1) ∙ ap length alone ∙ length-raise base keys in
    let longer = length-append skipped (bucket.0 ∷ []) in
    let pushed : start ≡ from + number_of (skipped ++ bucket.0 ∷ []) * 256 ^ width = ap (λ n. from + n * 256 ^ width) (sym (number_of-push skipped bucket.0)) in
    let here = tells from block wide start word (skipped ++ bucket.0 ∷ []) bucket.1 places nodes is (omega arith) pushed chain.1 (inr (omega arith)) chain.2 chain.3
    (subst (λ there. InBlock (256 ^ wide) block there) (sym alone) within) in
    subst (λ there. HoldsAt 33 word ((from, wide) ∷ places) (form (skipped ++ bucket.0 ∷ []) bucket.1 ++ nodes) ↔ (Has wide word there ⊎ HoldsAt 33 word places nodes)) alone here
split_way form width from block wide base word skipped keys (bucket ∷ other ∷ buckets) places nodes tells is long begins many below within chain same =
    let all = bucket ∷ other ∷ buckets in
    let narrow : width ≤ wide = omega arith in
    let lower : wide - (length skipped + 1) ≡ width = omega arith in
    let part = block * 256 ^ (wide - suc width) + number_of skipped in
    let inner : InBlock (256 ^ suc width) part (raise base keys) = InBlock-raise (256 ^ suc width) part base keys (base_block from block wide base (suc width) skipped is (omega arith) begins) below in
    let kids = buckets_way form width from (block * 256 ^ (wide - width)) (number_of skipped * 256) 0 word all places nodes tells (whole_block from block wide width is narrow) chain in
    let below_it = λ (w : ℕ). HoldsAt 33 word (places_of from w (number_of skipped * 256) (bytes_of all) ++ places) (forms_of (form []) all ++ nodes) in
    let lengths = length-raise base keys in (
      λ one. ⊎_elim
          (λ (h : LeadsTo word (from, wide) × (length keys ≡ 33)). let e = h.1 in inl (whole_way from block wide word (raise base keys) is within h.0 (omega arith)))
          (λ further. ⊎_elim
          (λ (h : Has width word (joined from (number_of skipped * 256) (256 ^ width) all)). let least = h.1 in
          inl (h.0, (let e : h.0 ≤ wide = omega arith in e), ap (alike (256 ^ h.0) word) (sym same) ∙ h.2))
          (λ last. inr last)
          (kids.0 (subst below_it lower further)))
          one,
      λ back. ⊎_elim
          (λ (h : Has wide word (raise base keys)). ⊎_elim
          (λ (below_all : width < h.0). let more : suc width ≤ h.0 = omega arith in let found = node_way from block wide word part (suc width) h.0
          (raise base keys) is within inner more h.1 h.2 in let e = found.1 in inl (found.0, (let e : length keys ≡ 33 = omega arith in e)))
          (λ (fewer : h.0 ≤ width). inr (subst below_it (sym lower) (kids.1 (inl (h.0, fewer, ap (alike (256 ^ h.0) word) same ∙ h.2)))))
          (cases_lt width h.0))
          (λ last. inr (subst below_it (sym lower) (kids.1 (inr last))))
          back,
    )

-- ---- the rule

leaf_way : (from block wide base word : ℕ) (skipped keys : List ℕ) (places : List Place) (nodes : Form)
    → from ≡ block * 256 ^ wide → wide ≡ length skipped + 1 → base ≡ from + number_of skipped * 256 ^ 1
    → 32 < length keys → AllBelow (256 ^ 1) keys → Ascends 0 keys → InBlock (256 ^ wide) block (raise base keys)
    → HoldsAt 33 word ((from, wide) ∷ places) ((bitmap_leaf skipped keys ∷ []) ++ nodes) ↔ (Has wide word (raise base keys) ⊎ HoldsAt 33 word places nodes)
leaf_way from block wide base word skipped keys places nodes is long begins many below up within =
    let part = block * 256 ^ (wide - 1) + number_of skipped in
    let inner : InBlock (256 ^ 1) part (raise base keys) = InBlock-raise (256 ^ 1) part base keys (base_block from block wide base 1 skipped is (omega arith) begins) below in
    let lengths = length-raise base keys in (
      λ one. ⊎_elim
          (λ (h : LeadsTo word (from, wide) × (length keys ≡ 33)). let e = h.1 in inl (whole_way from block wide word (raise base keys) is within h.0 (omega arith)))
          (λ last. inr last)
          one,
      λ back. ⊎_elim
          (λ (h : Has wide word (raise base keys)). inl (some_bytes h.0 h.1 h.2 inner lengths))
          (λ last. inr last)
          back,
    )
  where
    some_bytes : (bytes : ℕ) → bytes ≤ wide → alike (256 ^ bytes) word (raise base keys) ≡ 33 → InBlock (256 ^ 1) (block * 256 ^ (wide - 1) + number_of skipped) (raise base keys)
        → length (raise base keys) ≡ length keys → LeadsTo word (from, wide) × (length keys ≡ 33)
    some_bytes zero most same inner lengths =
        let alone = alike_alone word base (raise base keys) (Ascends-raise base 0 base keys (let e : base ≡ base + 0 = omega arith in e) up) in
        let never : ⊥ = omega arith in absurd never
    some_bytes (suc bytes) most same inner lengths =
        let found = node_way from block wide word (block * 256 ^ (wide - 1) + number_of skipped) 1 (suc bytes) (raise base keys) is within inner (let e : 1 ≤ suc bytes = omega arith in e) most same in
        (found.0, sym lengths ∙ found.1)

pub tells_way : (words width : ℕ) → 1 ≤ width → TellsWay (λ skipped keys. form_behind words width skipped keys) width
tells_way words zero some from block wide base word skipped keys places nodes is long begins any either below up within = let never : ⊥ = omega arith in absurd never
tells_way words (suc zero) some from block wide base word skipped keys places nodes is long begins any either below up within =
    let lengths = length-raise base keys in
    by_number-cases (λ form. HoldsAt 33 word ((from, wide) ∷ places) (form ++ nodes) ↔ (Has wide word (raise base keys) ⊎ HoldsAt 33 word places nodes))
    words 1 keys (bitmap_leaf skipped keys ∷ [])
    (λ none. let never : ⊥ = omega arith in absurd never)
    (λ _ few. let small = immediate_limit_small words 1 in few_way (LeadsTo word (from, wide)) (HoldsAt 33 word places nodes) wide word keys (raise base keys) (omega arith) lengths)
    (λ _ few. few_way (LeadsTo word (from, wide)) (HoldsAt 33 word places nodes) wide word keys (raise base keys) few lengths)
    (λ many. leaf_way from block wide base word skipped keys places nodes is long begins many below up within)
tells_way words (suc (suc lower)) some from block wide base word skipped keys places nodes is long begins any either below up within =
    let width = suc lower in
    let lengths = length-raise base keys in
    let buckets = buckets_of (256 ^ width) keys in
    let start : base ≡ from + number_of skipped * 256 * 256 ^ width = begins ∙ ap (λ n. from + n) (ap (λ unit. number_of skipped * unit) (pow-succ' 256 width) ∙
    sym (mul_assoc (number_of skipped) 256 (256 ^ width))) in
    by_number-cases (λ form. HoldsAt 33 word ((from, wide) ∷ places) (form ++ nodes) ↔ (Has wide word (raise base keys) ⊎ HoldsAt 33 word places nodes))
    words (suc width) keys (split_by (λ skip rest. form_behind words width skip rest) skipped (length keys) buckets)
    (λ none. let never : ⊥ = omega arith in absurd never)
    (λ _ few. let small = immediate_limit_small words (suc width) in few_way (LeadsTo word (from, wide)) (HoldsAt 33 word places nodes) wide word keys (raise base keys) (omega arith) lengths)
    (λ _ few. few_way (LeadsTo word (from, wide)) (HoldsAt 33 word places nodes) wide word keys (raise base keys) few lengths)
    (λ many. split_way (λ skip rest. form_behind words width skip rest) width from block wide base word skipped keys buckets places nodes
    (tells_way words (suc lower) (omega arith)) is long begins many below within
    (subst (λ low. AreChained (256 ^ width) low buckets) (zero-div (256 ^ width)) (chain-buckets_of (256 ^ width) 0 keys (unit_pos width) up))
    (joined-buckets_of from (number_of skipped * 256) (256 ^ width) base keys start))

-- In a tree of the rule a node on the way of a word holds 33 keys exactly where 33 keys are the same as the word but for some number of lowest
-- bytes.
pub way_of_33 : (words width word : ℕ) (keys : List ℕ) → 1 ≤ width → AllBelow (256 ^ width) keys → Ascends 0 keys
    → AreAlike 33 width word keys ↔ HoldsOnWay 33 word width (form_of words width keys)
way_of_33 words zero word [] some below up = let never : ⊥ = omega arith in absurd never
way_of_33 words (suc zero) word [] some below up = ((λ (h : Has 1 word []). let e = h.2 in let never : ⊥ = omega arith in absurd never), λ h. absurd h)
way_of_33 words (suc (suc lower)) word [] some below up = ((λ (h : Has (suc (suc lower)) word []). let e = h.2 in let never : ⊥ = omega arith in absurd never), λ h. absurd h)
way_of_33 words width word (key ∷ keys) some below up =
    let all = key ∷ keys in
    let same : raise 0 all ≡ all = raise-zero 0 all refl in
    let found = tells_way words width some 0 0 width 0 word [] all [] [] (omega arith) (omega arith) (omega arith) (omega arith) (inl refl) below up
    (InBlock-raise (256 ^ width) 0 0 all (omega arith) below) in
    let whole = append-nil (form_of words width all) in (
      (λ h. subst (λ form. HoldsAt 33 word ((0, width) ∷ []) form) whole (found.1 (inl (subst (λ there. Has width word there) (sym same) h)))),
      λ h. ⊎_elim (λ (there : Has width word (raise 0 all)). subst (λ keys. Has width word keys) same there) (λ (never : HoldsAt 33 word [] []). absurd never)
          (found.0 (subst (λ form. HoldsAt 33 word ((0, width) ∷ []) form) (sym whole) h)),
    )
