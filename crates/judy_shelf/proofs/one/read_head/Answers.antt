use Rattle.std.proofs.Common.{◌≡◌, ◌≢◌, [], ◌∷◌, refl, sym, subst, ap, ◌∙◌}
use Rattle.judy_model.specs.Fields.{Begins}
use Rattle.judy_model.specs.DumpGrammar as grammar
use Rattle.judy_shelf.specs.declared.one.OneFault.TheVariants.{Load}
use Rattle.judy_shelf.specs.Shelves.{Entries, store_of}
use Rattle.judy_shelf.specs.Versions.{format_of}
use Rattle.judy_shelf.specs.Writes.{kind_number}
use Rattle.judy_shelf.specs.Reads.{drawn, cause_of, ReadsValue, InStore, InCounted, ReadsFault, Nowhere, InStore, InCounted, InArray, InBody}
use Rattle.judy_shelf.proofs.OneReads.{at_magic, at_count, at_name, at_kind, at_limit, at_key_count, at_keys, head_stopped, head_err, some_here, some_with, some_then}
use Rattle.judy_shelf.proofs.OneReads.{after_magic, after_count, after_name, after_kind, after_limit, after_key_count, In}
use Rattle.judy_shelf.proofs.one.read_head.Goals as goal

pub returns-in_err-version : goal.returns-in_err-version
returns-in_err-version g c =
    let before = drawn (g.R.Source.given c.args.source.now) (g.R.Source.ended c.args.source.now) (g.R.Source.tally c.args.source.now).failures in
    let one = drawn (g.R.Source.given c.read_magic.new.source) (g.R.Source.ended c.read_magic.new.source) (g.R.Source.tally c.read_magic.new.source).failures in
    let fault = c.in_err-version.field-0.0 in
    head_err (kind_number c.args.kind) before one (Load fault) c.from_residual.result c.from_residual.ensures.1
    (head_stopped (grammar.begins) (after_magic) (λ fault. refl) (InStore) before before one (at_magic before) (cause_of fault) c.in_err-version.ensures)

pub returns-in_err-arrays : goal.returns-in_err-arrays
returns-in_err-arrays g c =
    let before = drawn (g.R.Source.given c.args.source.now) (g.R.Source.ended c.args.source.now) (g.R.Source.tally c.args.source.now).failures in
    let one = drawn (g.R.Source.given c.read_magic.new.source) (g.R.Source.ended c.read_magic.new.source) (g.R.Source.tally c.read_magic.new.source).failures in
    let two = drawn (g.R.Source.given c.read_array_count.new.source) (g.R.Source.ended c.read_array_count.new.source) (g.R.Source.tally c.read_array_count.new.source).failures in
    let version = format_of c.in_ok-version.version in
    let far1 = at_count before version one c.in_ok-version.ensures in
    let fault = c.in_err-arrays.field-0.0 in
    head_err (kind_number c.args.kind) before two (Load fault) c.from_residual-in_err-arrays.result c.from_residual-in_err-arrays.ensures.1
    (head_stopped (grammar.array_count) (after_count version) (λ fault. refl) (InCounted version) before one two far1 (cause_of fault) c.in_err-arrays.ensures.read)

pub returns-in_err-name : goal.returns-in_err-name
returns-in_err-name g c =
    let before = drawn (g.R.Source.given c.args.source.now) (g.R.Source.ended c.args.source.now) (g.R.Source.tally c.args.source.now).failures in
    let one = drawn (g.R.Source.given c.read_magic.new.source) (g.R.Source.ended c.read_magic.new.source) (g.R.Source.tally c.read_magic.new.source).failures in
    let two = drawn (g.R.Source.given c.read_array_count.new.source) (g.R.Source.ended c.read_array_count.new.source) (g.R.Source.tally c.read_array_count.new.source).failures in
    let three = drawn (g.R.Source.given c.read_name.new.source) (g.R.Source.ended c.read_name.new.source) (g.R.Source.tally c.read_name.new.source).failures in
    let version = format_of c.in_ok-version.version in
    let far1 = at_count before version one c.in_ok-version.ensures in
    let far2 = at_name before version one two far1 c.in_ok-arrays.arrays c.if-arrays-ne1.false c.in_ok-arrays.ensures.read in
    let named = subst (λ (entries : Entries). ReadsFault Nowhere (grammar.name (store_of entries)) (cause_of c.in_err-name.field-0.0) two three) c.new-none.ensures c.in_err-name.ensures.read in
    let fault = c.in_err-name.field-0.0 in
    head_err (kind_number c.args.kind) before three (Load fault) c.from_residual-in_err-name.result c.from_residual-in_err-name.ensures.1
    (head_stopped (grammar.name []) (after_name version) (λ fault. refl) (InArray version []) before two three far2 (cause_of fault) named)

pub returns-in_err-read_kind : goal.returns-in_err-read_kind
returns-in_err-read_kind g c =
    let before = drawn (g.R.Source.given c.args.source.now) (g.R.Source.ended c.args.source.now) (g.R.Source.tally c.args.source.now).failures in
    let one = drawn (g.R.Source.given c.read_magic.new.source) (g.R.Source.ended c.read_magic.new.source) (g.R.Source.tally c.read_magic.new.source).failures in
    let two = drawn (g.R.Source.given c.read_array_count.new.source) (g.R.Source.ended c.read_array_count.new.source) (g.R.Source.tally c.read_array_count.new.source).failures in
    let three = drawn (g.R.Source.given c.read_name.new.source) (g.R.Source.ended c.read_name.new.source) (g.R.Source.tally c.read_name.new.source).failures in
    let four = drawn (g.R.Source.given c.read_kind.new.source) (g.R.Source.ended c.read_kind.new.source) (g.R.Source.tally c.read_kind.new.source).failures in
    let version = format_of c.in_ok-version.version in
    let far1 = at_count before version one c.in_ok-version.ensures in
    let far2 = at_name before version one two far1 c.in_ok-arrays.arrays c.if-arrays-ne1.false c.in_ok-arrays.ensures.read in
    let name = c.in_ok-name.name in
    let named = subst (λ (entries : Entries). ReadsValue (grammar.name (store_of entries)) name two three) c.new-none.ensures c.in_ok-name.ensures.read in
    let far3 = at_kind before version name two three far2 named in
    let fault = c.in_err-read_kind.field-0.0 in
    head_err (kind_number c.args.kind) before four (Load fault) c.from_residual-in_err-read_kind.result c.from_residual-in_err-read_kind.ensures.1
    (head_stopped (grammar.kind) (after_kind version name) (λ fault. refl) (InBody version) before three four far3 (cause_of fault) c.in_err-read_kind.ensures)

pub returns-in_err-limit : goal.returns-in_err-limit
returns-in_err-limit g c =
    let before = drawn (g.R.Source.given c.args.source.now) (g.R.Source.ended c.args.source.now) (g.R.Source.tally c.args.source.now).failures in
    let one = drawn (g.R.Source.given c.read_magic.new.source) (g.R.Source.ended c.read_magic.new.source) (g.R.Source.tally c.read_magic.new.source).failures in
    let two = drawn (g.R.Source.given c.read_array_count.new.source) (g.R.Source.ended c.read_array_count.new.source) (g.R.Source.tally c.read_array_count.new.source).failures in
    let three = drawn (g.R.Source.given c.read_name.new.source) (g.R.Source.ended c.read_name.new.source) (g.R.Source.tally c.read_name.new.source).failures in
    let four = drawn (g.R.Source.given c.read_kind.new.source) (g.R.Source.ended c.read_kind.new.source) (g.R.Source.tally c.read_kind.new.source).failures in
    let five = drawn (g.R.Source.given c.read_limit.new.source) (g.R.Source.ended c.read_limit.new.source) (g.R.Source.tally c.read_limit.new.source).failures in
    let version = format_of c.in_ok-version.version in
    let far1 = at_count before version one c.in_ok-version.ensures in
    let far2 = at_name before version one two far1 c.in_ok-arrays.arrays c.if-arrays-ne1.false c.in_ok-arrays.ensures.read in
    let name = c.in_ok-name.name in
    let named = subst (λ (entries : Entries). ReadsValue (grammar.name (store_of entries)) name two three) c.new-none.ensures c.in_ok-name.ensures.read in
    let far3 = at_kind before version name two three far2 named in
    let number = kind_number c.in_ok-read_kind.field-0 in
    let far4 = at_limit before version name three four number far3 c.in_ok-read_kind.ensures in
    let fault = c.in_err-limit.field-0.0 in
    head_err (kind_number c.args.kind) before five (Load fault) c.from_residual-in_err-limit.result c.from_residual-in_err-limit.ensures.1
    (head_stopped (grammar.limit) (after_limit version name number) (λ fault. refl) (Begins grammar.limit (λ limit. Begins (grammar.key_count limit) (In version number limit))) before four
    five far4 (cause_of fault) c.in_err-limit.ensures.read)

pub returns-in_err-count : goal.returns-in_err-count
returns-in_err-count g c =
    let before = drawn (g.R.Source.given c.args.source.now) (g.R.Source.ended c.args.source.now) (g.R.Source.tally c.args.source.now).failures in
    let one = drawn (g.R.Source.given c.read_magic.new.source) (g.R.Source.ended c.read_magic.new.source) (g.R.Source.tally c.read_magic.new.source).failures in
    let two = drawn (g.R.Source.given c.read_array_count.new.source) (g.R.Source.ended c.read_array_count.new.source) (g.R.Source.tally c.read_array_count.new.source).failures in
    let three = drawn (g.R.Source.given c.read_name.new.source) (g.R.Source.ended c.read_name.new.source) (g.R.Source.tally c.read_name.new.source).failures in
    let four = drawn (g.R.Source.given c.read_kind.new.source) (g.R.Source.ended c.read_kind.new.source) (g.R.Source.tally c.read_kind.new.source).failures in
    let five = drawn (g.R.Source.given c.read_limit.new.source) (g.R.Source.ended c.read_limit.new.source) (g.R.Source.tally c.read_limit.new.source).failures in
    let six = drawn (g.R.Source.given c.read_key_count.new.source) (g.R.Source.ended c.read_key_count.new.source) (g.R.Source.tally c.read_key_count.new.source).failures in
    let version = format_of c.in_ok-version.version in
    let far1 = at_count before version one c.in_ok-version.ensures in
    let far2 = at_name before version one two far1 c.in_ok-arrays.arrays c.if-arrays-ne1.false c.in_ok-arrays.ensures.read in
    let name = c.in_ok-name.name in
    let named = subst (λ (entries : Entries). ReadsValue (grammar.name (store_of entries)) name two three) c.new-none.ensures c.in_ok-name.ensures.read in
    let far3 = at_kind before version name two three far2 named in
    let number = kind_number c.in_ok-read_kind.field-0 in
    let far4 = at_limit before version name three four number far3 c.in_ok-read_kind.ensures in
    let limit = c.in_ok-limit.limit in
    let far5 = at_key_count before version name four five number limit far4 c.in_ok-limit.ensures.read in
    let fault = c.in_err-count.field-0.0 in
    head_err (kind_number c.args.kind) before six (Load fault) c.from_residual-in_err-count.result c.from_residual-in_err-count.ensures.1
    (head_stopped (grammar.key_count limit) (after_key_count version name number limit) (λ fault. refl) (Begins (grammar.key_count limit) (In version number limit)) before five six far5
    (cause_of fault) c.in_err-count.ensures)

pub returns-then-arrays-ne1 : goal.returns-then-arrays-ne1
returns-then-arrays-ne1 g c =
    let before = drawn (g.R.Source.given c.args.source.now) (g.R.Source.ended c.args.source.now) (g.R.Source.tally c.args.source.now).failures in
    let one = drawn (g.R.Source.given c.read_magic.new.source) (g.R.Source.ended c.read_magic.new.source) (g.R.Source.tally c.read_magic.new.source).failures in
    let two = drawn (g.R.Source.given c.read_array_count.new.source) (g.R.Source.ended c.read_array_count.new.source) (g.R.Source.tally c.read_array_count.new.source).failures in
    let version = format_of c.in_ok-version.version in
    some_then grammar.begins version (λ more version. Begins grammar.array_count (λ count rest. (count ≢ 1) × (rest ≡ more))) before one two c.in_ok-version.ensures
    (some_then grammar.array_count c.in_ok-arrays.arrays (λ more count rest. (count ≢ 1) × (rest ≡ more)) one two two c.in_ok-arrays.ensures.read
    (some_here (λ more rest. (c.in_ok-arrays.arrays ≢ 1) × (rest ≡ more)) (λ more. (c.if-arrays-ne1.true, refl)) two))

pub returns-then-number-kind_number : goal.returns-then-number-kind_number
returns-then-number-kind_number g c =
    let before = drawn (g.R.Source.given c.args.source.now) (g.R.Source.ended c.args.source.now) (g.R.Source.tally c.args.source.now).failures in
    let one = drawn (g.R.Source.given c.read_magic.new.source) (g.R.Source.ended c.read_magic.new.source) (g.R.Source.tally c.read_magic.new.source).failures in
    let two = drawn (g.R.Source.given c.read_array_count.new.source) (g.R.Source.ended c.read_array_count.new.source) (g.R.Source.tally c.read_array_count.new.source).failures in
    let three = drawn (g.R.Source.given c.read_name.new.source) (g.R.Source.ended c.read_name.new.source) (g.R.Source.tally c.read_name.new.source).failures in
    let four = drawn (g.R.Source.given c.read_kind.new.source) (g.R.Source.ended c.read_kind.new.source) (g.R.Source.tally c.read_kind.new.source).failures in
    let version = format_of c.in_ok-version.version in
    let name = c.in_ok-name.name in
    let named = subst (λ (entries : Entries). ReadsValue (grammar.name (store_of entries)) name two three) c.new-none.ensures c.in_ok-name.ensures.read in
    let kind = kind_number c.args.kind in
    let number = kind_number c.in_ok-read_kind.field-0 in
    let beside : number ≢ kind = λ same. c.if-number-kind_number.true (c.kind_number-number.ensures ∙ same ∙ sym c.kind_number.ensures) in
    some_then grammar.begins version
    (λ more version. Begins grammar.array_count (λ count input. (count ≡ 1) × Begins (grammar.name []) (λ name. Begins grammar.kind (λ other rest. (other ≢ kind) × (rest ≡ more))) input))
    before one four c.in_ok-version.ensures
    (some_then grammar.array_count c.in_ok-arrays.arrays
    (λ more count input. (count ≡ 1) × Begins (grammar.name []) (λ name. Begins grammar.kind (λ other rest. (other ≢ kind) × (rest ≡ more))) input) one two four c.in_ok-arrays.ensures.read
    (some_with (c.in_ok-arrays.arrays ≡ 1) (λ more. Begins (grammar.name []) (λ name. Begins grammar.kind (λ other rest. (other ≢ kind) × (rest ≡ more)))) two four c.if-arrays-ne1.false
    (some_then (grammar.name []) name (λ more name. Begins grammar.kind (λ other rest. (other ≢ kind) × (rest ≡ more))) two three four named
    (some_then grammar.kind number (λ more other rest. (other ≢ kind) × (rest ≡ more)) three four four c.in_ok-read_kind.ensures
    (some_here (λ more rest. (number ≢ kind) × (rest ≡ more)) (λ more. (beside, refl)) four)))))

pub returns : goal.returns
returns g c =
    let before = drawn (g.R.Source.given c.args.source.now) (g.R.Source.ended c.args.source.now) (g.R.Source.tally c.args.source.now).failures in
    let one = drawn (g.R.Source.given c.read_magic.new.source) (g.R.Source.ended c.read_magic.new.source) (g.R.Source.tally c.read_magic.new.source).failures in
    let two = drawn (g.R.Source.given c.read_array_count.new.source) (g.R.Source.ended c.read_array_count.new.source) (g.R.Source.tally c.read_array_count.new.source).failures in
    let three = drawn (g.R.Source.given c.read_name.new.source) (g.R.Source.ended c.read_name.new.source) (g.R.Source.tally c.read_name.new.source).failures in
    let four = drawn (g.R.Source.given c.read_kind.new.source) (g.R.Source.ended c.read_kind.new.source) (g.R.Source.tally c.read_kind.new.source).failures in
    let five = drawn (g.R.Source.given c.read_limit.new.source) (g.R.Source.ended c.read_limit.new.source) (g.R.Source.tally c.read_limit.new.source).failures in
    let six = drawn (g.R.Source.given c.read_key_count.new.source) (g.R.Source.ended c.read_key_count.new.source) (g.R.Source.tally c.read_key_count.new.source).failures in
    let version = format_of c.in_ok-version.version in
    let far1 = at_count before version one c.in_ok-version.ensures in
    let far2 = at_name before version one two far1 c.in_ok-arrays.arrays c.if-arrays-ne1.false c.in_ok-arrays.ensures.read in
    let name = c.in_ok-name.name in
    let named = subst (λ (entries : Entries). ReadsValue (grammar.name (store_of entries)) name two three) c.new-none.ensures c.in_ok-name.ensures.read in
    let far3 = at_kind before version name two three far2 named in
    let number = kind_number c.args.kind in
    let same : kind_number c.in_ok-read_kind.field-0 ≡ number = sym c.kind_number-number.ensures ∙ c.if-number-kind_number.false ∙ c.kind_number.ensures in
    let far4 = at_limit before version name three four number far3 (subst (λ n. ReadsValue grammar.kind n three four) same c.in_ok-read_kind.ensures) in
    let limit = c.in_ok-limit.limit in
    let far5 = at_key_count before version name four five number limit far4 c.in_ok-limit.ensures.read in
    let count = c.in_ok-count.count in
    (name, limit, at_keys before version name five six number limit count (at_key_count before version name four five number limit far4 c.in_ok-limit.ensures.read) c.in_ok-count.ensures)
