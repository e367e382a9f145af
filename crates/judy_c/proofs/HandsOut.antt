-- The call of `hand_out`, for a walk of a call of C that hands out a slot. The machine has the slot, or none, in one word of the type
-- `Found`. Assumes `Logic`.
use Rattle.std.proofs.Common.{◌≡◌, ℕ, Bool, Option, Some, None, List, [], ◌∷◌, refl, ap, ◌∙◌, MutBor}
use lib.Dec.{T}
use base.Logic.{id⊢}
use base.Fml.{Lft, Share, Fml, ftrue, fsep, flft, fres, fbor}
use base.Logic.{SProp}
use contract.BorrowLft.{◌⊑◌}
use contract.Monad.{Fun, fact}
use mir.Syntax.{named, Body, Place, Opd as Operand, call, seq}
use mir.Val.{Val, vbool, has_ty, WT}
use prog.Memory.{Memory}
use prog.Routine.{Routine}
use prog.Wp.{Calls, Env, Loops}
use seplogic.Ra.Ura.{Ura}
use sound.WpLaws.{FmC}
use types.Kit.{Item, Post, Seq, ‵, raw, ◌⊛◌, some, later, runs, lands, ◌$◌, drop, feq_l, fsplit, group, join, split, move, pick, await, regoal, use1, use2}
use types.Logic.{Logic}
use types.Run.{Opds}
use types.SemTy.{Body as Held}
use denote.Builtin.{u64, bool}
use denote.Enum.Loose.{row_lawful}
use denote.Laws.{Is}
use denote.Memory.{lone, mem}
use denote.RattleType.{RattleType}
use denote.Ref.{MutRef, NamedLft, mut_vals}
use denote.Steps.{heard, nothing, only}
use denote.Struct.Field.{row_field, mut_ref_field}
use denote.Struct.Laws.{mut_ref_laws}
use denote.Struct.Loose.{Loose, loosen}
use denote.Triple.Call.{calls_at}
use denote.Triple.Clauses.{Lasts, lasts}
use denote.Triple.Spec.{triple_of}
use denote.Triple.Statement.{Contract, Triple}
use Rattle.core.specs.contracts.option.Option as option
use Rattle.std_heap.specs.contracts.Global as heap
use Rattle.std_heap.proofs.Global.TheLaws as heap_laws
use Rattle.std_heap.proofs.Handle.{heap_val}
use Rattle.judy_c.specs.Told.{IsTold, lent_where}
use Rattle.judy_c.specs.contracts.told.hand_out as f

-- a slot that is lent for κ, and a pointer to such a slot that is lent for κ'
abbrev pub Lent : Lft → RattleType
Lent κ = MutRef (named 0) κ u64

abbrev pub Found : Lft → RattleType
Found κ = option.the_row (Lent κ)

abbrev pub Pointer : Lft → Lft → RattleType
Pointer κ κ' = MutRef (named 1) κ' (Lent κ)

-- what is left of the pointer once it was given to `hand_out`, which left `last` behind it
abbrev pub Given : Lft → Lft → MutBor (MutBor ℕ) → MutBor ℕ → Fml
Given κ κ' slot last = fsep (fres slot.ghost_name ((Lent κ).coded.code last)) (fbor κ' (Held (mem (Lent κ)) slot.ref_ptr.0 slot.ref_ptr.1 slot.ghost_name))

-- what was handed out is what was found
pub handed : (found : Option (MutBor ℕ)) (told : Bool) (before after : MutBor ℕ) → IsTold found told before after → lent_where told after ≡ found
handed None told before after is = ap (λ (b : Bool). lent_where b after) is.0
handed (Some slot) told before after is = ap (λ (b : Bool). lent_where b after) is.0 ∙ ap Some is.1

pub lent_laws : (κ : Lft) → Loose (row_field (Lent κ))
lent_laws κ =
    let a : NamedLft = record { mir = named 0; lft = κ } in let L = loosen (mut_ref_field a u64 tt) (mut_ref_laws a u64 tt) in
    record { single = L.single; lawful = λ 𝓛. L.lawful 𝓛; drops = λ 𝓛. L.drops 𝓛 }

-- the word is of its type
pub found_typed : {M : Type 1} {𝓤 : Ura M} (𝓛 : Logic 𝓤) (κ : Lft) (found : (Found κ).Denot) (v : Val) → Is (Found κ) found (v ∷ []) → T (has_ty (lone (Found κ).mir) v) × WT v
found_typed 𝓛 κ found v is = ((row_lawful 𝓛 (option.the_type (Lent κ)) (tt, ((lent_laws κ, tt), tt)) tt).typed found (v ∷ []) is).0

pub heap_typed : {M : Type 1} {𝓤 : Ura M} (𝓛 : Logic 𝓤) (alloc : heap.the_row.Denot) → Is heap.the_row alloc (heap_val ∷ []) → T (has_ty (lone heap.the_row.mir) heap_val) × WT heap_val
heap_typed 𝓛 alloc is = ((heap_laws.the_row_laws.lawful 𝓛).typed alloc (heap_val ∷ []) is).0

module _ {M : Type 1} {𝓤 : Ura M} (𝓛 : Logic 𝓤) (at_mem : Memory → SProp 𝓤) (run : Routine → Fun 𝓤) where
  open 𝓛 use {H}

  abbrev pub Teller : Contract 𝓤
  Teller = triple_of 𝓛 f.signature (f.spec 𝓛 at_mem run)

  module _ (κ κ' : Lft) (q q' : Share) (bounds : κ' ⊑ κ) (found : Option (MutBor ℕ)) (v : Val) (slot : MutBor (MutBor ℕ)) where
    abbrev tokens : Item 𝓤
    tokens = ‵ (flft κ q) ⊛ ‵ (flft κ' q') ⊛ ‵ ftrue

    abbrev pub asked : Teller.Ghost
    asked = (((κ, (κ', tt)), (q, (q', tt)), (bounds, tt), (found, (slot, tt)), (v ∷ [], (mut_vals slot, tt))), tt)

    -- the pointer is given for good, and the slot that was found stands behind it then, where there is one
    pub hands_out : {K : Type 0} → K → {Γ : List (Item 𝓤)} {C : Calls 𝓤 H} {Λ : Loops 𝓤 H} {E : Env 𝓤 H} {post : Post 𝓤 H} {rest : Body} {xs : List Operand} {d : Place}
        → FmC 𝓤 H 𝓛.laws C → Triple 𝓤 (C f.Key.name) Teller → Opds K 𝓛 (raw (Teller.pre asked) ∷ Γ) E xs (Teller.args asked)
        → ((told : Bool) (last : MutBor ℕ) → IsTold found told slot.now last → Seq K 𝓛 (‵ (Given κ κ' slot last) ∷ tokens ∷ Γ) (lands C Λ E d (vbool told) rest post))
        → Seq K 𝓛 (‵ ((Found κ).own_val found (v ∷ [])) ∷ ‵ ((Pointer κ κ').own_val slot (mut_vals slot)) ∷ tokens ∷ Γ) (runs C Λ E (seq (call f.Key.name xs d) rest) post)
    hands_out t {C = C} {Λ = Λ} {E = E} {post = post} {rest = rest} {d = d} framing met operands k =
        nothing t $ move t (1 ∷ 2 ∷ 0 ∷ []) $ group t 3 $ move t (1 ∷ 0 ∷ []) $ join t $ nothing t $ move t (1 ∷ 0 ∷ []) $
        use2 𝓛 (raw (Teller.pre asked)) (id⊢ 𝓤 _) $
        calls_at t framing Teller met asked operands (λ u.
        use1 𝓛 (later (some (λ (told : Bool). (tokens ⊛ ‵ (bool.own_val told (u ∷ []))) ⊛ some (λ (ws : Lasts f.ended asked.0.0 asked.0.3).
        ‵ (lasts f.ended asked.0.0 asked.0.3 ws) ⊛ raw (fact 𝓤 (IsTold found told slot.now ws.1.0)))))) (id⊢ 𝓤 _) $
        await t tt $ pick t (λ told. split t $ split t $ move t (1 ∷ []) $ feq_l t (λ is. regoal t (λ (w : Val). lands C Λ E d w rest post) (ap only is) refl $
        move t (1 ∷ []) $ pick t (λ ws. split t $ move t (1 ∷ []) $ heard t _ (λ handed. fsplit t $ drop t $ fsplit t $ move t (1 ∷ []) $ drop t $ k told ws.1.0 handed)))))
