-- Words that are no keys in a node without children, to either side: what a list tells, and what follows beside a bitmap leaf.
use Rattle.std.proofs.Common.{◌≡◌, ℕ, ◌+◌, ◌-◌, ◌*◌, ◌<◌, ◌≤◌, ◌^◌, Option, None, Some, inl, inr, refl, sym, subst, arith}
use Rattle.judy_model.specs.Keys.{word_order}
use Rattle.judy_model.specs.Nearest.{IsFirst, IsLast}
use Rattle.judy_leaf.specs.KeyLists.{keys_of, shift}
use Rattle.judy_leaf.specs.Nearby.{is_absent}
use Rattle.judy_node.specs.Trees.{Pairs, IsMap}
use Rattle.judy_query.specs.declared.sides.Side.{Side}
use Rattle.judy_query.specs.declared.sides.Side.TheVariants.{Up, Down}
use Rattle.judy_query.specs.Rooms.{IsAbsent, low_of, high_of}
use Rattle.judy_query.proofs.Runs.{first-absent, last-absent, beside_bits, bits_run, bits_absent, bits_within, bits_before_end, bits_to_end}

-- ---- what a list tells

module _ (side : Side) (pairs list : Pairs) (held width key : ℕ) (answer : Option ℕ) (same : pairs ≡ list) (wide : held ≡ width) (within : key < 256 ^ width) where
  pub told_up : side ≡ Up → IsFirst word_order (is_absent (256 ^ held) (keys_of list)) key answer → IsAbsent side pairs (low_of side key) (high_of side key (256 ^ width)) answer
  told_up is told =
      rw is (first-absent pairs key (256 ^ width) answer (omega arith)
      (subst (λ w. IsFirst word_order (is_absent (256 ^ w) (keys_of pairs)) key answer) wide (subst (λ ps. IsFirst word_order (is_absent (256 ^ held) (keys_of ps)) key answer) (sym same) told)))

  pub told_down : side ≡ Down → IsLast word_order (is_absent (256 ^ held) (keys_of list)) key answer → IsAbsent side pairs (low_of side key) (high_of side key (256 ^ width)) answer
  told_down is told =
      rw is (last-absent pairs key (256 ^ width) answer within
      (subst (λ w. IsLast word_order (is_absent (256 ^ w) (keys_of pairs)) key answer) wide (subst (λ ps. IsLast word_order (is_absent (256 ^ held) (keys_of ps)) key answer) (sym same) told)))

-- ---- a bitmap leaf

module _ (words skipped width : ℕ) (pairs : Pairs) (some : 1 ≤ width) (small : skipped < 256 ^ (width - 1)) (map : IsMap words 0 256 pairs) (key : ℕ)
    (above : skipped * 256 ≤ key) (below : key - skipped * 256 ≤ 255) where
  -- A byte that is none of its last bytes.
  pub byte_told : (side : Side) (byte : ℕ) → IsAbsent side pairs (low_of side (key - skipped * 256)) (high_of side (key - skipped * 256) 256) (Some byte)
      → IsAbsent side (shift (skipped * 256) pairs) (low_of side key) (high_of side key (256 ^ width)) (Some (skipped * 256 + byte))
  byte_told Up byte told =
      let within = bits_within skipped width some small in
      let inside = told.0 in (
        omega arith,
        bits_run words skipped width pairs map (key - skipped * 256) byte key (skipped * 256 + byte) (omega arith) refl told.1,
        bits_absent words skipped width pairs map byte (skipped * 256 + byte) refl told.2,
      )
  byte_told Down byte told = (
    omega arith,
    bits_run words skipped width pairs map (byte + 1) (key - skipped * 256 + 1) (skipped * 256 + byte + 1) (key + 1) (omega arith) (omega arith) told.1,
    bits_absent words skipped width pairs map byte (skipped * 256 + byte) refl told.2,
  )

  -- All bytes from one on, to a side that is known.
  run_told : (side other : Side) → side ≡ other → IsAbsent side pairs (low_of side (key - skipped * 256)) (high_of side (key - skipped * 256) 256) None →
      IsAbsent other pairs (low_of other (key - skipped * 256)) (high_of other (key - skipped * 256) 256) None
  run_told side other is = subst (λ s. IsAbsent s pairs (low_of s (key - skipped * 256)) (high_of s (key - skipped * 256) 256) None) is

  -- The word behind all of them, and the one before them.
  pub behind_told : (side : Side) → side ≡ Up → skipped + 1 < 256 ^ (width - 1) → IsAbsent side pairs (low_of side (key - skipped * 256)) (high_of side (key - skipped * 256) 256) None
      → IsAbsent side (shift (skipped * 256) pairs) (low_of side key) (high_of side key (256 ^ width)) (Some (skipped * 256 + 256))
  behind_told side is less told =
      rw is (
        bits_before_end skipped width some less,
        bits_run words skipped width pairs map (key - skipped * 256) 256 key (skipped * 256 + 256) (omega arith) refl (run_told side Up is told),
        beside_bits words skipped width pairs map (skipped * 256 + 256) (inr (omega arith)),
      )

  pub before_told : (side : Side) → side ≡ Down → 0 < skipped * 256 → IsAbsent side pairs (low_of side (key - skipped * 256)) (high_of side (key - skipped * 256) 256) None
      → IsAbsent side (shift (skipped * 256) pairs) (low_of side key) (high_of side key (256 ^ width)) (Some (skipped * 256 - 1))
  before_told side is more told =
      rw is (
        omega arith,
        bits_run words skipped width pairs map 0 (key - skipped * 256 + 1) (skipped * 256 - 1 + 1) (key + 1) (omega arith) (omega arith) (run_told side Down is told),
        beside_bits words skipped width pairs map (skipped * 256 - 1) (inl (omega arith)),
      )

  -- There is none where they are the last words of the width, or the first.
  pub none_behind_told : (side : Side) → side ≡ Up → 256 ^ (width - 1) ≤ skipped + 1 → IsAbsent side pairs (low_of side (key - skipped * 256)) (high_of side (key - skipped * 256) 256) None
      → IsAbsent side (shift (skipped * 256) pairs) (low_of side key) (high_of side key (256 ^ width)) None
  none_behind_told side is most told =
      rw is (bits_run words skipped width pairs map (key - skipped * 256) 256 key (256 ^ width) (omega arith) (sym (bits_to_end skipped width some small most)) (run_told side Up is told))

  pub none_before_told : (side : Side) → side ≡ Down → skipped * 256 ≤ 0 → IsAbsent side pairs (low_of side (key - skipped * 256)) (high_of side (key - skipped * 256) 256) None
      → IsAbsent side (shift (skipped * 256) pairs) (low_of side key) (high_of side key (256 ^ width)) None
  none_before_told side is none told =
      rw is (bits_run words skipped width pairs map 0 (key - skipped * 256 + 1) 0 (key + 1) (omega arith) (omega arith) (run_told side Down is told))
