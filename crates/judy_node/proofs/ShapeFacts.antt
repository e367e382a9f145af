-- Sums of shapes.
use Rattle.std.proofs.Common.{◌≡◌, ℕ, ◌+◌, ◌<◌, ◌≤◌, true, false, cond, leb, List, [], ◌∷◌, ◌++◌, length, take, drop, get_or, sym, refl, ap, ◌∙◌, arith, length-append, append_assoc}
use Rattle.std.proofs.lemmas.List.{take_more, take-append-drop, append-nil}
use Rattle.judy_model.specs.Forms.{Node, Form, immediate, leaf, bitmap_leaf, branch, with_branch, with_node, shape_in}
use Rattle.judy_model.specs.Forms as forms
use Rattle.judy_node.specs.Trees.{Tree, forms_in}
use Rattle.judy_node.specs.ShapeSums.{plus, nodes_in}

plus-same : (one other : forms.Shape) → one.immediates ≡ other.immediates → one.leaves ≡ other.leaves → one.bitmap_leaves ≡ other.bitmap_leaves → one.linear ≡ other.linear →
    one.bitmap ≡ other.bitmap → one.full ≡ other.full
    → one ≡ other
plus-same one other a b c d e f = λ t. record { immediates = a t; leaves = b t; bitmap_leaves = c t; linear = d t; bitmap = e t; full = f t }

pub plus-assoc : (one other more : forms.Shape) → plus (plus one other) more ≡ plus one (plus other more)
plus-assoc one other more = plus-same (plus (plus one other) more) (plus one (plus other more)) (omega arith) (omega arith) (omega arith) (omega arith) (omega arith) (omega arith)

plus-branch : (children : ℕ) (one other : forms.Shape) → plus (with_branch children one) other ≡ with_branch children (plus one other)
plus-branch children one other =
    elim (leb children 7) as (λ b. plus (cond b (record one { linear = one.linear + 1 }) (cond (leb children 127) (record one { bitmap = one.bitmap + 1 }) (record one { full = one.full + 1 }))) other
    ≡ cond b (record (plus one other) { linear = one.linear + other.linear + 1 }) (cond (leb children 127) (record (plus one other) { bitmap = one.bitmap + other.bitmap + 1 })
    (record (plus one other) { full = one.full + other.full + 1 }))) [
      | true ↦ plus-same _ _ refl refl refl (omega arith) refl refl
      | false ↦ elim (leb children 127) as (λ b. plus (cond b (record one { bitmap = one.bitmap + 1 }) (record one { full = one.full + 1 })) other
          ≡ cond b (record (plus one other) { bitmap = one.bitmap + other.bitmap + 1 }) (record (plus one other) { full = one.full + other.full + 1 })) [
            | true ↦ plus-same _ _ refl refl refl refl (omega arith) refl
            | false ↦ plus-same _ _ refl refl refl refl refl (omega arith)
          ]
    ]

plus-node : (node : Node) (one other : forms.Shape) → plus (with_node node one) other ≡ with_node node (plus one other)
plus-node (immediate keys) one other = plus-same _ _ (omega arith) refl refl refl refl refl
plus-node (leaf keys) one other = plus-same _ _ refl (omega arith) refl refl refl refl
plus-node (bitmap_leaf skipped bytes) one other = plus-same _ _ refl refl (omega arith) refl refl refl
plus-node (branch skipped bytes count) one other = plus-branch (length bytes) one other

pub shape_in-append : (one other : Form) → shape_in (one ++ other) ≡ plus (shape_in one) (shape_in other)
shape_in-append [] other = plus-same (shape_in other) (plus (shape_in []) (shape_in other)) (omega arith) (omega arith) (omega arith) (omega arith) (omega arith) (omega arith)
shape_in-append (node ∷ one) other = ap (with_node node) (shape_in-append one other) ∙ sym (plus-node node (shape_in one) (shape_in other))

plus-comm : (one other : forms.Shape) → plus one other ≡ plus other one
plus-comm one other = plus-same (plus one other) (plus other one) (omega arith) (omega arith) (omega arith) (omega arith) (omega arith) (omega arith)

-- A branch counted before what stands below it, or behind.
pub branch-first : (children : ℕ) (one other : forms.Shape) → plus (with_branch children one) other ≡ plus one (with_branch children other)
branch-first children one other =
    plus-branch children one other ∙ ap (with_branch children) (plus-comm one other) ∙ sym (plus-branch children other one) ∙ plus-comm (with_branch children other) one

pub nodes-plus : (one other : forms.Shape) → nodes_in (plus one other) ≡ nodes_in one + nodes_in other
nodes-plus one other = omega arith

pub nodes-branch : (children : ℕ) (one : forms.Shape) → nodes_in (with_branch children one) ≡ nodes_in one + 1
nodes-branch children one =
    elim (leb children 7) as (λ b. nodes_in (cond b (record one { linear = one.linear + 1 }) (cond (leb children 127) (record one { bitmap = one.bitmap + 1 })
    (record one { full = one.full + 1 }))) ≡ nodes_in one + 1) [
      | true ↦ omega arith
      | false ↦ elim (leb children 127) as (λ b. nodes_in (cond b (record one { bitmap = one.bitmap + 1 }) (record one { full = one.full + 1 })) ≡ nodes_in one + 1) [
        | true ↦ omega arith
        | false ↦ omega arith
      ]
    ]

nodes-node : (node : Node) (one : forms.Shape) → nodes_in (with_node node one) ≡ nodes_in one + 1
nodes-node (immediate keys) one = omega arith
nodes-node (leaf keys) one = omega arith
nodes-node (bitmap_leaf skipped bytes) one = omega arith
nodes-node (branch skipped bytes count) one = nodes-branch (length bytes) one

-- A shape has the nodes of its form.
pub nodes-shape_in : (form : Form) → nodes_in (shape_in form) ≡ length form
nodes-shape_in [] = omega arith
nodes-shape_in (node ∷ form) = let here = nodes-node node (shape_in form) in let rest = nodes-shape_in form in omega arith

-- ---- children in turn

pub forms_in-append : (one other : List Tree) → forms_in (one ++ other) ≡ forms_in one ++ forms_in other
forms_in-append [] other = refl
forms_in-append (kid ∷ one) other = ap (λ rest. kid.form ++ rest) (forms_in-append one other) ∙ sym (append_assoc kid.form (forms_in one) (forms_in other))

pub forms-more : (kids : List Tree) (at : ℕ) (kid : Tree) → at < length kids → kid ≡ get_or kids at kid → forms_in (take (at + 1) kids) ≡ forms_in (take at kids) ++ kid.form
forms-more kids at kid within is =
    ap forms_in (take_more kids at kid within) ∙ forms_in-append (take at kids) (get_or kids at kid ∷ [])
    ∙ ap (λ rest. forms_in (take at kids) ++ rest) (append-nil (get_or kids at kid).form ∙ ap (λ k. k.form) (sym is))

pub forms-within : (kids : List Tree) (at : ℕ) (kid : Tree) → at < length kids → kid ≡ get_or kids at kid → length (forms_in (take at kids)) + length kid.form ≤ length (forms_in kids)
forms-within kids at kid within is =
    let more = ap length (forms-more kids at kid within is) ∙ length-append (forms_in (take at kids)) kid.form in
    let all = ap length (ap forms_in (sym (take-append-drop (at + 1) kids)) ∙ forms_in-append (take (at + 1) kids) (drop (at + 1) kids)) ∙
    length-append (forms_in (take (at + 1) kids)) (forms_in (drop (at + 1) kids)) in
    omega arith

-- One child more is counted.
pub shape-more : (start now new : forms.Shape) (kids : List Tree) (at : ℕ) (kid : Tree) → at < length kids → kid ≡ get_or kids at kid
    → now ≡ plus start (shape_in (forms_in (take at kids))) → new ≡ plus now (shape_in kid.form) → new ≡ plus start (shape_in (forms_in (take (at + 1) kids)))
shape-more start now new kids at kid within is before after =
    after ∙ ap (λ s. plus s (shape_in kid.form)) before ∙ plus-assoc start (shape_in (forms_in (take at kids))) (shape_in kid.form)
    ∙ ap (plus start) (sym (shape_in-append (forms_in (take at kids)) kid.form) ∙ ap shape_in (sym (forms-more kids at kid within is)))

pub shape-room : (start now : forms.Shape) (kids : List Tree) (at : ℕ) (kid : Tree) (most : ℕ) → at < length kids → kid ≡ get_or kids at kid
    → now ≡ plus start (shape_in (forms_in (take at kids))) → nodes_in start + length (forms_in kids) < most → nodes_in now + length kid.form < most
shape-room start now kids at kid most within is before room =
    let sum = ap nodes_in before ∙ nodes-plus start (shape_in (forms_in (take at kids))) in
    let front = nodes-shape_in (forms_in (take at kids)) in
    let all = forms-within kids at kid within is in
    omega arith
