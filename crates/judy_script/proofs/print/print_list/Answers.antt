use Rattle.std.proofs.Common.{◌≡◌, ◌+◌, ◌<◌, ◌++◌, length, refl, sym, ◌∙◌, arith}
use Rattle.std.proofs.lemmas.Option.{slice_get_within}
use Rattle.judy_model.specs.Replies.{listing_text}
use Rattle.judy_shelf.specs.Arrays.{value_of}
use Rattle.judy_script.proofs.Listings.{listed_of, listed_of-next, listed_of-all}
use Rattle.judy_script.proofs.print.print_list.Goals as goal

pub arrays-preserved : goal.arrays-preserved
arrays-preserved c =
    let next : listed_of (c.arrays.place + 1) c.args.shelf.now ≡ listed_of c.arrays.place c.args.shelf.now ++ listing_text (c.in-Some.name.now, value_of c.in-Some.array.now) =
    listed_of-next c.args.shelf.now c.arrays.place c.in-Some.name.now c.in-Some.array.now c.in-Some.ensures.entry in
    let within : c.arrays.place < length c.args.shelf.now = slice_get_within c.args.shelf.now c.arrays.place _ (sym c.in-Some.ensures.entry) in
    record {
      place = omega (arith, within);
      items = c.append_listing.ensures.items ∙ rw (c.arrays.invariant.items, next) refl;
      len = omega (arith, c.append_listing.ensures.len, c.arrays.invariant.len);
    }

pub returns : goal.returns
returns c = c.append-2.ensures.items ∙ rw (c.arrays.invariant.items, listed_of-all c.args.shelf.now c.arrays.place c.in_default.ensures.entry) refl
