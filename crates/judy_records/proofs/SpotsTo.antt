-- Spots up to an end, and one more at a place of them.
use Rattle.std.proofs.Common.{◌≡◌, ◌≢◌, ℕ, zero, suc, ◌+◌, ◌<◌, ◌≤◌, List, [], ◌∷◌, ◌++◌, length, get_or, set, nat_lt, cond, inl, inr, refl, sym, ap, subst, ◌∙◌, arith, lt-ltb, le-ltb}
use Rattle.std.proofs.Math.Seq.{set-append_seam}
use Rattle.std.proofs.lemmas.Bool.{cases_lt}
use Rattle.std.proofs.lemmas.List.{length_push, length-set, get_or_append_left, get_or_push, get_or_past, get_or-set_same, get_or-set_other, set-append_left}
use Rattle.judy_records.specs.Spots.{Spot, free, IsHeld, put_at}
use Rattle.judy_records.specs.Inside.{spots_to}

pub length-to : (end : ℕ) (spot : ℕ → Spot) → length (spots_to end spot) ≡ end
length-to zero spot = refl
length-to (suc end) spot = (let long = length_push (spots_to end spot) (spot end) in let rest = length-to end spot in omega (arith, long, rest))

pub get-to : (end : ℕ) (spot : ℕ → Spot) (at : ℕ) (d : Spot) → at < end → get_or (spots_to end spot) at d ≡ spot at
get-to zero spot at d inside = absurd (omega (arith, inside))
get-to (suc end) spot at d inside =
    let long = length-to end spot in
    elim (cases_lt at end) [
      | inl less ↦ get_or_append_left (spots_to end spot) (spot end ∷ []) d at (omega (arith, less, long)) ∙ get-to end spot at d less
      | inr past ↦
          let e : at ≡ end = omega (arith, inside, past) in
          get_or_push (spots_to end spot) (spot end) d at (long ∙ sym e) ∙ ap spot (sym e)
    ]

pub same-to : (end : ℕ) (one two : ℕ → Spot) → ((at : ℕ) → at < end → one at ≡ two at) → spots_to end one ≡ spots_to end two
same-to zero one two same = refl
same-to (suc end) one two same = λ i. same-to end one two (λ at less. same at (omega (arith, less))) i ++ same end (omega arith) i ∷ []

pub set-to : (end : ℕ) (before after : ℕ → Spot) (at : ℕ) (spot : Spot) → at < end → after at ≡ spot → ((other : ℕ) → other < end → other ≢ at → after other ≡ before other) →
    spots_to end after ≡ set (spots_to end before) at spot
set-to zero before after at spot inside here elsewhere = absurd (omega (arith, inside))
set-to (suc end) before after at spot inside here elsewhere =
    let long = length-to end before in
    elim (cases_lt at end) [
      | inl less ↦
          (λ i. set-to end before after at spot less here (λ other within apart. elsewhere other (omega (arith, within)) apart) i ++ elsewhere end (omega arith) (λ e. omega (arith, e, less)) i ∷ [])
          ∙ sym (set-append_left (spots_to end before) (before end ∷ []) at spot (omega (arith, less, long)))
      | inr past ↦
          let e : at ≡ end = omega (arith, inside, past) in
          (λ i. same-to end after before (λ other within. elsewhere other (omega (arith, within)) (λ same. omega (arith, same, within, e))) i ++ (ap after (sym e) ∙ here) i ∷ [])
          ∙ sym (set-append_seam (spots_to end before) (before end) [] spot)
          ∙ ap (λ n. set (spots_to end before ++ before end ∷ []) n spot) (long ∙ sym e)
    ]

-- What is held stands before the end.
pub held-to : (end : ℕ) (spot : ℕ → Spot) (at : ℕ) → IsHeld (get_or (spots_to end spot) at (free 0)) → at < end
held-to end spot at is = elim (cases_lt at end) [
  | inl less ↦ less
  | inr past ↦ (let long = length-to end spot in absurd (subst IsHeld (get_or_past (spots_to end spot) at (free 0) (omega (arith, past, long))) is))
]

-- ---- a spot put at a place, or at the end

module _ (spots : List Spot) (at : ℕ) (spot : Spot) where
  pub put-set : at < length spots → put_at spots at spot ≡ set spots at spot
  put-set less = ap (λ b. cond b (set spots at spot) (spots ++ spot ∷ [])) (lt-ltb at (length spots) less)

  pub put-end : at ≡ length spots → put_at spots at spot ≡ spots ++ spot ∷ []
  put-end end = ap (λ b. cond b (set spots at spot) (spots ++ spot ∷ [])) (le-ltb at (length spots) (omega (arith, end)))

  pub put-here : at ≤ length spots → get_or (put_at spots at spot) at (free 0) ≡ spot
  put-here within = elim (cases_lt at (length spots)) [
    | inl less ↦ ap (λ all. get_or all at (free 0)) (put-set less) ∙ get_or-set_same spots at spot (free 0) less
    | inr past ↦
        let e : at ≡ length spots = omega (arith, within, past) in
        ap (λ all. get_or all at (free 0)) (put-end e) ∙ get_or_push spots spot (free 0) at (sym e)
  ]

  pub put-other : at ≤ length spots → (other : ℕ) → other ≢ at → get_or (put_at spots at spot) other (free 0) ≡ get_or spots other (free 0)
  put-other within other apart = elim (cases_lt at (length spots)) [
    | inl less ↦ ap (λ all. get_or all other (free 0)) (put-set less) ∙ get_or-set_other spots at other spot (free 0) apart
    | inr past ↦
        let e : at ≡ length spots = omega (arith, within, past) in
        ap (λ all. get_or all other (free 0)) (put-end e) ∙ elim (cases_lt other (length spots)) [
          | inl less ↦ get_or_append_left spots (spot ∷ []) (free 0) other less
          | inr behind ↦
              let long = length_push spots spot in
              get_or_past (spots ++ spot ∷ []) other (free 0) (let off : length spots ≢ other = (λ same. apart (sym same ∙ sym e)) in omega (arith, behind, off, long))
              ∙ sym (get_or_past spots other (free 0) behind)
        ]
  ]

  pub put-long : at < length spots → length (put_at spots at spot) ≡ length spots
  put-long less = ap length (put-set less) ∙ length-set spots at spot

  pub put-longer : at ≡ length spots → length (put_at spots at spot) ≡ length spots + 1
  put-longer end = ap length (put-end end) ∙ length_push spots spot
