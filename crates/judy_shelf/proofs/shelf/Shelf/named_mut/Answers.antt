use Rattle.std.proofs.Common.{refl, ap, ◌∙◌}
use Rattle.std.specs.Prelude.{bytes_eq}
use Rattle.std.specs.List.{slice_get}
use Rattle.std.specs.Map.{values_of, set_value, lookup}
use Rattle.indexmap.specs.IndexMap.{set_value_at}
use Rattle.judy_shelf.specs.Shelves.{Entries}
use Rattle.judy_shelf.proofs.PlaceLemmas.{value_at_place, write_at_place, IsShelf-written, found_within}
use Rattle.judy_shelf.proofs.shelf.Shelf.named_mut.Goals as goal

pub invariant_of-self-lent : goal.invariant_of-self-lent
invariant_of-self-lent c = λ _. ((λ w. IsShelf-written _ _ w c.self.invariant), c.self.invariant)

pub returns : goal.returns
returns c =
    let test = bytes_eq c.args.bytes.now in
    let entries : Entries = c.self.inside.arrays.entries in
    let place = c.place_of-place.ensures.place in (
      (
        refl,
        λ w. ap (λ at. set_value_at entries at w) place ∙ write_at_place test entries w ∙ ap (λ (all : Entries). set_value test all w) c.self.view_is,
        c.self.view_is,
      ),
      record {
        writes_back = tt;
        value =
            c.get_index_mut.ensures.value ∙ ap (slice_get (values_of entries)) place ∙ value_at_place test entries ∙ ap (λ (all : Entries). lookup test all) c.self.view_is;
        name = found_within c.get_index_mut.result entries c.place_of-place.result c.get_index_mut.ensures.value c.place_of-place.ensures.name;
      },
    )
