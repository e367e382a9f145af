-- How an array of words is stored among the values that a proof tells apart.
use Rattle.std.specs.Prelude.{◌≡◌, ℕ, Bool, List, ◌⊎◌, refl}
use Rattle.std.proofs.Common.{inl, inr}
use Rattle.std.specs.FinMap.{FinMap, code}
use Rattle.std.specs.Coded.{Coded, code_by, coded×, coded⊎, coded_list, coded_bool, coded_ℕ}
use Rattle.judy_model.specs.Keys.{word_order}
use Rattle.judy_model.specs.Forms.{Node, immediate, leaf, bitmap_leaf, branch, Form}
use Rattle.judy_word.specs.WordArrays.{WordArray}

-- A node by its kind: a list, two, or two and a number.
abbrev pub Parts : Type 0
Parts = (List ℕ ⊎ List ℕ) ⊎ ((List ℕ × List ℕ) ⊎ (List ℕ × (List ℕ × ℕ)))

abbrev pub parts : Node → Parts
parts (immediate keys) = inl (inl keys)
parts (leaf keys) = inl (inr keys)
parts (bitmap_leaf skipped bytes) = inr (inl (skipped, bytes))
parts (branch skipped bytes count) = inr (inr (skipped, (bytes, count)))

abbrev pub node_by : Parts → Node
node_by (inl (inl keys)) = immediate keys
node_by (inl (inr keys)) = leaf keys
node_by (inr (inl list)) = bitmap_leaf list.0 list.1
node_by (inr (inr list)) = branch list.0 list.1.0 list.1.1

abbrev pub node_by-parts : (node : Node) → node_by (parts node) ≡ node
node_by-parts (immediate keys) = refl
node_by-parts (leaf keys) = refl
node_by-parts (bitmap_leaf skipped bytes) = refl
node_by-parts (branch skipped bytes count) = refl

abbrev pub bytes_code : Coded (List ℕ)
bytes_code = coded_list coded_ℕ

abbrev pub node_code : Coded Node
node_code = code_by Parts (coded⊎ (coded⊎ bytes_code bytes_code) (coded⊎ (coded× bytes_code bytes_code) (coded× bytes_code (coded× bytes_code coded_ℕ)))) parts node_by node_by-parts

-- An array is stored as its four parts.
abbrev pub word_array_code : Coded WordArray
word_array_code =
    code_by (ℕ × (FinMap word_order ℕ × (Form × Bool))) (coded× coded_ℕ (coded× (code coded_ℕ coded_ℕ) (coded× (coded_list node_code) coded_bool)))
    (λ array. (array.limit, (array.map, (array.form, array.loose)))) (λ list. record { limit = list.0; map = list.1.0; form = list.1.1.0; loose = list.1.1.1 }) (λ _. refl)
