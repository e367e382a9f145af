-- The call that answers by a number what was made of a slot, and hands the slot out, for a walk of a call of C: of an insert, or of a scan. The
-- machine has what was made in one value of the type `Made`. Assumes `Logic`.
use Rattle.std.proofs.Common.{ℕ, ◌<◌, ◌^◌, List, [], ◌∷◌, Result, refl, ap, w32, MutBor}
use Rattle.std.specs.Prelude.{drop as rest}
use lib.Dec.{T}
use base.Logic.{emp, id⊢}
use base.Fml.{Lft, Share, ftrue, flft}
use contract.BorrowLft.{◌⊑◌}
use contract.Monad.{fact}
use mir.Syntax.{Body, Callee, Place, Opd as Operand, call, seq}
use mir.Val.{Val, vint, has_ty, WT}
use prog.Wp.{Calls, Env, Loops}
use seplogic.Ra.Ura.{Ura}
use sound.WpLaws.{FmC}
use types.Kit.{Item, Post, Seq, ‵, raw, ◌⊛◌, some, later, runs, lands, ◌$◌, drop, fsplit, group, join, split, move, pick, await, regoal, use1, use2}
use types.Logic.{Logic}
use types.Run.{Opds}
use denote.Builtin.{u32}
use denote.Enum.Loose.{row_lawful}
use denote.Laws.{Is, shows}
use denote.Memory.{lone}
use denote.Param.Laws.{Laws, row_loose}
use denote.RattleType.{RattleType}
use denote.Ref.{mut_vals}
use denote.Signature.{plain}
use denote.Steps.{facts, heard, nothing, only}
use denote.Triple.Call.{calls_at}
use denote.Triple.Clauses.{Ended, Clauses, closing, Lasts, lasts}
use denote.Triple.Spec.{triple_of}
use denote.Triple.Statement.{Contract, Triple}
use Rattle.core.specs.contracts.result.Result as result
use Rattle.judy_c.specs.contracts.answers.answer_insert as f
use Rattle.judy_c.proofs.HandsOut.{Lent, Pointer, Given, lent_laws}

-- of errors of a type, by what the call says of what was made, its answer, and what stands where the caller is told before and after
module _ (E : RattleType) (E_laws : Laws E) (IsAnswered : Result (MutBor ℕ) E.Denot → ℕ → MutBor ℕ → MutBor ℕ → Type 0) where
  -- a slot that is lent for κ, or why there is none
  abbrev pub Made : Lft → RattleType
  Made κ = result.the_row (Lent κ) E

  -- the value is of its type
  pub made_typed : {M : Type 1} {𝓤 : Ura M} (𝓛 : Logic 𝓤) (κ : Lft) (made : (Made κ).Denot) (v : Val) → Is (Made κ) made (v ∷ []) → T (has_ty (lone (Made κ).mir) v) × WT v
  made_typed 𝓛 κ made v is = ((row_lawful 𝓛 (result.the_type (Lent κ) E) ((lent_laws κ, tt), ((row_loose E E_laws, tt), tt)) tt).typed made (v ∷ []) is).0

  abbrev pub asking : Ended
  asking = record {
    signature = record { lifetimes = 2; outlives = f.signature.outlives; params = plain (λ κs. Made κs.0) ∷ rest 1 f.signature.params; result = f.signature.result };
    kept = f.ended.kept;
  }

  module _ {M : Type 1} {𝓤 : Ura M} (𝓛 : Logic 𝓤) where
    open 𝓛 use {H}

    abbrev pub answering : Clauses 𝓤 asking
    answering = λ κs a. record { ghost = Unit {0}; requires = λ g. emp 𝓤; ensures = λ g told e. fact 𝓤 (IsAnswered a.0 told a.1.0.now e.1.0.now) }

    abbrev pub Teller : Contract 𝓤
    Teller = triple_of 𝓛 asking.signature (closing 𝓛 asking answering)

    module _ (κ κ' : Lft) (q q' : Share) (bounds : κ' ⊑ κ) (made : Result (MutBor ℕ) E.Denot) (v : Val) (slot : MutBor (MutBor ℕ)) where
      abbrev tokens : Item 𝓤
      tokens = ‵ (flft κ q) ⊛ ‵ (flft κ' q') ⊛ ‵ ftrue

      abbrev pub asked : Teller.Ghost
      asked = (((κ, (κ', tt)), (q, (q', tt)), (bounds, tt), (made, (slot, tt)), (v ∷ [], (mut_vals slot, tt))), tt)

      -- the pointer is given for good, and the slot stands behind it then, where there is one
      pub answers : {K : Type 0} → K → {Γ : List (Item 𝓤)} {C : Calls 𝓤 H} {Λ : Loops 𝓤 H} {E : Env 𝓤 H} {post : Post 𝓤 H} {rest : Body} {name : Callee} {xs : List Operand} {d : Place}
          → FmC 𝓤 H 𝓛.laws C → Triple 𝓤 (C name) Teller → Opds K 𝓛 (raw (Teller.pre asked) ∷ Γ) E xs (Teller.args asked)
          → ((told : ℕ) (last : MutBor ℕ) → told < 2 ^ 32 → IsAnswered made told slot.now last → Seq K 𝓛 (‵ (Given κ κ' slot last) ∷ tokens ∷ Γ) (lands C Λ E d (vint w32 told) rest post))
          → Seq K 𝓛 (‵ ((Made κ).own_val made (v ∷ [])) ∷ ‵ ((Pointer κ κ').own_val slot (mut_vals slot)) ∷ tokens ∷ Γ) (runs C Λ E (seq (call name xs d) rest) post)
      answers t {C = C} {Λ = Λ} {E = E'} {post = post} {rest = rest} {d = d} framing met operands k =
          nothing t $ move t (1 ∷ 2 ∷ 0 ∷ []) $ group t 3 $ move t (1 ∷ 0 ∷ []) $ join t $ nothing t $ move t (1 ∷ 0 ∷ []) $
          use2 𝓛 (raw (Teller.pre asked)) (id⊢ 𝓤 _) $
          calls_at t framing Teller met asked operands (λ u.
          use1 𝓛 (later (some (λ (told : ℕ). (tokens ⊛ ‵ (u32.own_val told (u ∷ []))) ⊛ some (λ (ws : Lasts asking asked.0.0 asked.0.3).
          ‵ (lasts asking asked.0.0 asked.0.3 ws) ⊛ raw (fact 𝓤 (IsAnswered made told slot.now ws.1.0)))))) (id⊢ 𝓤 _) $
          await t tt $ pick t (λ told. split t $ split t $ move t (1 ∷ []) $ facts t u32 (Is u32) (shows 𝓛 u32) told (u ∷ [])
          (λ is. regoal t (λ (w : Val). lands C Λ E' d w rest post) (ap only is.0) refl $
          move t (1 ∷ []) $ pick t (λ ws. split t $ move t (1 ∷ []) $ heard t _ (λ handed. fsplit t $ drop t $ fsplit t $ move t (1 ∷ []) $ drop t $ k told ws.1.0 is.1 handed)))))
