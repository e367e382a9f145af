-- Names and kinds as they are read.
use Rattle.std.proofs.Common.{◌≡◌, ℕ, Bool, true, false, cond, not, List, [], ◌∷◌, length, Option, Some, None, Ok, IsFalse, is_some, is_none, ok_or, MatchOption, refl, sym, ap, subst, ◌∙◌}
use Rattle.std.specs.Borrow.{Bor}
use Rattle.std.specs.Option.{option_copied, option_map}
use Rattle.std.specs.List.{list_all}
use Rattle.std.proofs.lemmas.Bool.{and_parts}
use Rattle.judy_model.specs.Tokens.{is_name, is_name_byte, name_of}
use Rattle.judy_model.specs.Stores.{array_named}
use Rattle.judy_model.specs.Fields.{bad_magic, bad_name, same_name, bad_kind, bytes, number, field, done}
use Rattle.judy_model.specs.DumpText.{magic}
use Rattle.judy_model.specs.DumpGrammar as grammar
use Rattle.judy_model.specs.DumpGrammar.{is_magic, version_of, is_new, is_kind, name_checks, is_name_length}
use Rattle.judy_shelf.specs.declared.array.Array.{Array}
use Rattle.judy_shelf.specs.declared.fault.LoadFault.{LoadFault}
use Rattle.judy_shelf.specs.declared.fault.LoadFault.TheVariants.{BadKind, BadMagic}
use Rattle.judy_shelf.specs.declared.kind.Kind.{Kind}
use Rattle.judy_shelf.specs.declared.kind.Kind.TheVariants.{Judy1, JudyL, JudySl, JudyHs}
use Rattle.judy_shelf.specs.declared.version.Version.{Version}
use Rattle.judy_shelf.specs.declared.version.Version.TheVariants.{First, Second}
use Rattle.judy_shelf.specs.Arrays.{value_of}
use Rattle.judy_shelf.specs.Shelves.{Entries, store_of}
use Rattle.judy_shelf.specs.Versions.{format_of}
use Rattle.judy_shelf.specs.Writes.{kind_number}
use Rattle.judy_shelf.specs.Reads.{Drawn, told, ReadsValue, ReadsFault, Nowhere, Reads}
use Rattle.judy_shelf.proofs.ShelfLemmas.{array_named-store_of}
use Rattle.judy_shelf.proofs.ReadLemmas.{value_passes, value_passes_both, value_fails, value_fails_second, value_then, value_done, fault_first}

-- ---- the name of the format

module _ (named : List ℕ) (before after : Drawn) (was : ReadsValue (bytes 4) named before after) where
  version_told_by : (made : Version) → named ≡ magic (format_of made) → is_magic (magic (format_of made)) ≡ true → version_of (magic (format_of made)) ≡ format_of made →
      ReadsValue grammar.begins (format_of made) before after
  version_told_by made same known names =
      subst (λ version. ReadsValue grammar.begins version before after) (ap version_of same ∙ names)
      (value_then (field (bytes 4) ((is_magic, bad_magic) ∷ [])) (λ named. done (version_of named)) named before after
      (value_passes (bytes 4) named before after was is_magic bad_magic (ap is_magic same ∙ known)) (version_of named) after
      (value_done (version_of named) after))

  pub version_told : (found : Option Version) → MatchOption found (IsFalse (is_magic named)) (λ version. named ≡ magic (format_of version)) →
      Reads format_of grammar.begins before (ok_or found BadMagic) after
  version_told None unknown =
      fault_first (field (bytes 4) ((is_magic, bad_magic) ∷ [])) (λ named. done (version_of named)) (told bad_magic) before after
      (value_fails (bytes 4) named before after was is_magic bad_magic [] unknown)
  version_told (Some First) same = version_told_by First same refl refl
  version_told (Some Second) same = version_told_by Second same refl refl

-- ---- names

named_by : (b : Bool) (read name : List ℕ) (fault : LoadFault) → Ok name ≡ ok_or (cond b (Some read) None) fault → (b ≡ true) × (read ≡ name)
named_by true read name fault is = (refl, cc)
named_by false read name fault is = absurd cc

-- Bytes that a name was made of are that name.
pub named : (read name : List ℕ) (made : Option (List ℕ)) (fault : LoadFault) → made ≡ name_of read → Ok name ≡ ok_or made fault → (is_name read ≡ true) × (read ≡ name)
named read name made fault is given = named_by (is_name read) read name fault (given ∙ ap (λ o. ok_or o fault) is)

copied : (found : Option (Bor Array)) → is_none (option_map value_of (option_copied found)) ≡ not (is_some found)
copied None = refl
copied (Some array) = refl

-- A name is new where a look-up finds none.
pub new_is : (entries : Entries) (name : List ℕ) (found : Option (Bor Array)) → option_copied found ≡ array_named entries name → is_new (store_of entries) name ≡ not (is_some found)
new_is entries name found is = ap is_none (array_named-store_of entries name ∙ ap (option_map value_of) (sym is)) ∙ copied found

module _ (entries : Entries) (wanted : ℕ) (read name : List ℕ) (before after : Drawn) (was : ReadsValue (bytes wanted) read before after) (is : is_name read ≡ true) (same : read ≡ name) where
  bytes_pass : list_all is_name_byte read ≡ true
  bytes_pass = (and_parts (is_name_length (length read)) (list_all is_name_byte read) is).1

  pub name_is_new : is_new (store_of entries) name ≡ true → ReadsValue (field (bytes wanted) (name_checks (store_of entries))) name before after
  name_is_new new = subst (λ n. ReadsValue (field (bytes wanted) (name_checks (store_of entries))) n before after) same
      (value_passes_both (bytes wanted) read before after was (list_all is_name_byte) (is_new (store_of entries)) bad_name same_name bytes_pass (ap (is_new (store_of entries)) same ∙ new))

  pub name_is_taken : is_new (store_of entries) name ≡ false → ReadsFault Nowhere (field (bytes wanted) (name_checks (store_of entries))) (told same_name) before after
  name_is_taken taken =
      value_fails_second (bytes wanted) read before after was (list_all is_name_byte) (is_new (store_of entries)) bad_name same_name bytes_pass (ap (is_new (store_of entries)) same ∙ taken)

-- ---- kinds

module _ (value : ℕ) (before after : Drawn) (was : ReadsValue (number 1) value before after) where
  kind_told_by : (made : Kind) → value ≡ kind_number made → is_kind (kind_number made) ≡ true → ReadsValue grammar.kind (kind_number made) before after
  kind_told_by made same known = subst (λ n. ReadsValue grammar.kind n before after) same (value_passes (number 1) value before after was is_kind bad_kind (ap is_kind same ∙ known))

  pub kind_told : (found : Option Kind) → MatchOption found (IsFalse (is_kind value)) (λ kind. value ≡ kind_number kind) → Reads kind_number grammar.kind before (ok_or found BadKind) after
  kind_told None unknown = value_fails (number 1) value before after was is_kind bad_kind [] unknown
  kind_told (Some Judy1) same = kind_told_by Judy1 same refl
  kind_told (Some JudyL) same = kind_told_by JudyL same refl
  kind_told (Some JudySl) same = kind_told_by JudySl same refl
  kind_told (Some JudyHs) same = kind_told_by JudyHs same refl
