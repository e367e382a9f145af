-- `into_box` hands what the pieces own to `from_raw`. How to read it: judy_block's proofs/Lib.antt. Assumes `Logic`.
use Rattle.std.proofs.Common.{◌≡◌, List, [], ◌∷◌, ◌++◌, refl, sym, ap, subst}
use mir.Val.{Val, vptr, has_ty, WT}
use mir.MapTy.{inst_fn}
use lib.Dec.{T}
use base.Logic.{SProp, ent, id⊢}
use base.Fml.{ftrue, fsep, flft}
use prog.Wp.{WpFn}
use types.Kit.{Item, ‵, raw, ◌⊛◌, some, later, at_ret, ◌$◌, ◌∵◌, !, qed, by, move, keep, drop, split, split3, join, fsplit, fjoin, pick, suffices, use1, await, rewrite, feq_i}
use types.Run.{stop, fld, of_opd, no_more, and_then, first, blocks, exec, returns, enter}
use types.ByLocal.{alloc_all, pass_all, free_all, look_at, get, get_in, sets, lands_last, env}
use types.Part.{sub, whole}
use contract.Monad.{fact}
use contract.BorrowLft.{◌⊑◌}
use contract.Running.{tables}
use denote.Exit.{no}
use denote.RattleType.{RattleType}
use denote.Signature.{plain}
use denote.RawPtr.{block_ptr}
use denote.Steps.{nothing, only}
use denote.Triple.Clauses.{Lasts, lasts}
use denote.Triple.Spec.{triple_of}
use denote.Triple.Call.{calls_at_last}
use denote.Triple.Walked.{Stays, stay_dropped, walk_of}
use Rattle.core.proofs.alloc.Calls.{Goes-blank}
use Rattle.core.proofs.alloc.Shapes.{after}
use Rattle.core.proofs.atomic.Steps.{fm}
use Rattle.std_alloc.proofs.BoxSteps.Form as box
use Rattle.std_alloc.proofs.BoxSteps.Steps.{box_out, box_in}
use Rattle.std.proofs.raw_atomic.Walks.{proved_at, leaves}
use Rattle.std_alloc.specs.contracts.boxed.Box.from_raw as callee
use Rattle.std_alloc.proofs.boxed.Box.from_raw.Met.{met}
use Rattle.judy_c.specs.contracts.box_parts.BoxParts as parts
use Rattle.judy_c.specs.contracts.box_parts.BoxParts.into_box.{ended, clauses}
use Rattle.judy_c.specs.contracts.box_parts.BoxParts.into_box.Key.{name as #self}
use Rattle.judy_c.proofs.box_parts.BoxParts.into_box.Statement.{statement}
use Rattle.judy_c.proofs.box_parts.BoxParts.into_box.Code as code

pub into_box_spec : {M : Type 1} → statement M
into_box_spec 𝓤 𝓛 𝓜 𝓡 wired X Z LX LZ g d dd allocator glue =
    let E : box.Bx = record { row = X; laws = LX; al = record { row = Z; laws = LZ; g = g; d = d; drops = dd } } in let H = 𝓛.H in let 𝓣 = tables 𝓤 H 𝓜 𝓡 𝓡.env in
    let En = ended X Z g d dd in let c = clauses X Z g d dd 𝓛 𝓜.mem 𝓡.returns in let fn = inst_fn (box.args E) code.function in
    let From : RattleType = parts.the_row (box.R E) (box.P E) g in let hs : Stays En.signature.params En.kept = (stay_dropped (plain (λ _. From)) no, tt) in
    let k = triple_of 𝓛 (callee.signature X Z g d dd) (callee.spec X Z g d dd 𝓛 𝓜.mem 𝓡.returns) in
    proved_at 𝓛 En hs c 𝓜 𝓡 (Goes-blank 𝓛 2 (plain (λ _. From)) no (λ κs x f. tt), tt) (#self (box.args E)) fn (code.unfolded 𝓤 H 𝓜 𝓡 wired (X, (Z, tt)) d dd) (λ z are.
    let κs = z.0.0 in let qs = z.0.1 in let l = z.0.3.0 in let v : box.D E = record { ptr = l.at; alloc = l.alloc; value = l.value } in
    let Post : Val → SProp 𝓤 = (walk_of 𝓛 En hs c).post z in let Run : List Val → SProp 𝓤 = λ ws. WpFn 𝓤 H 𝓣.C 𝓣.Λ fn ws Post in
    let tokens : Item 𝓤 = ‵ (flft κs.0 qs.0) ⊛ ‵ (flft κs.1.0 qs.1.0) ⊛ ‵ ftrue in
    let lives : Item 𝓤 = raw (fact 𝓤 (κs.0 ⊑ X.lives)) ⊛ raw (fact 𝓤 (κs.1.0 ⊑ Z.lives)) ⊛ ‵ ftrue in
    qed 𝓛 ((tokens ⊛ ‵ (fsep ((box.B E).own_val v z.0.4.0) ftrue)) ∷ lives ∷ []) ∵ split ! $ move ! (1 ∷ []) $ fsplit ! $
    -- [what the pointer owns; the right to free it; the allocator; true; the tokens; that the types live]
    box_out E ! v z.0.4.0 (λ b o h e ws fits. let w = box.word E h b o in
    let y : k.Ghost = ((κs, qs, tt, (l.alloc, (block_ptr b o, tt)), (h ∷ [], (vptr b o ∷ [], tt))), l.value) in
    suffices ! (Run (w ∷ [])) (subst (λ (us : List Val). ent 𝓤 (Run (w ∷ [])) (Run (us ++ []))) (sym ws) (id⊢ 𝓤 (Run (w ∷ [])))) $
    fjoin ! $ enter ! 𝓣.C 𝓣.Λ fn (w ∷ []) Post $ alloc_all ! (λ ls. pass_all ! refl (box.box_typed E h b o fits, tt) $ let Ev = env fn.locals ls in
    -- `let BoxParts { at, alloc } = self`, and the arguments of the call
    sets ! (of_opd ! (get_in ! (fld ! refl (stop !)) (sub ! 0 refl (whole !)))) refl (tt, tt) $ sets ! (of_opd ! (get_in ! (fld ! refl (stop !)) (sub ! 1 refl (whole !)))) refl fits $
    first ! $ blocks ! $ sets ! (of_opd ! (get ! refl)) refl fits $
    -- [the box at its pointer; the allocator; true; the tokens; that the types live]: what `from_raw` asks for
    move ! (4 ∷ []) $ split3 ! $ move ! (2 ∷ []) $ drop ! $ move ! (1 ∷ 2 ∷ []) $ join ! $ move ! (1 ∷ 0 ∷ []) $ join ! $
    move ! (2 ∷ []) $ feq_i ! (List Val) (vptr b o ∷ []) (vptr b o ∷ []) refl $ fjoin ! $ move ! (2 ∷ 0 ∷ []) $ fjoin ! $ move ! (2 ∷ 0 ∷ []) $ join ! $ join ! $ use1 𝓛 (raw (k.pre y)) (id⊢ 𝓤 _) $
    calls_at_last ! (fm 𝓛 𝓜 𝓡) k (met 𝓤 𝓛 𝓜 𝓡 (code.calls-std_alloc::boxed::Box::from_raw 𝓡.env wired) X Z LX LZ g d dd allocator glue) y
    (and_then ! (get ! refl) (and_then ! (get ! refl) (no_more !))) (λ u.
    use1 𝓛 (later (some (λ (r : box.D E). (tokens ⊛ ‵ ((box.B E).own_val r (u ∷ []))) ⊛ some (λ (la : Lasts (callee.ended X Z g d dd) κs y.0.3). ‵
    (lasts (callee.ended X Z g d dd) κs y.0.3 la) ⊛ (raw (fact 𝓤 (r.value ≡ l.value)) ⊛ raw (fact 𝓤 (r.alloc ≡ l.alloc))))))) (id⊢ 𝓤 (k.post y u)) $
    await ! tt $ pick ! (λ r. split ! $ move ! (1 ∷ []) $ pick ! (λ _. split3 ! $ drop ! $ move ! (2 ∷ []) $ split ! $ move ! (1 ∷ []) $
    -- [the box; the tokens; the two facts]: the result is a box's words
    box_out E ! r (u ∷ []) (λ b' o' h' e' us fits'. box_in E ! r b' o' r.value e' refl $ rewrite ! 0 (λ (vs : List Val). ‵ ((box.B E).own_val r vs)) (sym us) refl $
    let typed : T (has_ty (box.box_ty E) u) × WT u = subst (λ (s : Val). T (has_ty (box.box_ty E) s) × WT s) (sym (ap only us)) (box.box_typed E h' b' o' fits') in
    lands_last ! refl typed $ exec ! 𝓣.C 𝓣.Λ Ev (after 3 fn.body) (at_ret Ev Post) $ sets ! (of_opd ! (get ! refl)) refl typed $ nothing ! $ nothing ! $ fjoin ! $
    returns ! (look_at ! 0 refl) $ free_all ! refl $ keep ! (2 ∷ 0 ∷ 1 ∷ 3 ∷ []) $ by ! (leaves 𝓛 En hs c z u r ((tt, (tt, tt)), tt) (tt, tt)))))))))
