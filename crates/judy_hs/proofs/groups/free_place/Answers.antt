use Rattle.std.proofs.Common.{List, length, get_or, None, inl, inr, refl, sym, ap, ◌∙◌}
use Rattle.std.proofs.lemmas.List.{length-map}
use Rattle.judy_hs.specs.declared.group.GroupPlace.{GroupPlace}
use Rattle.judy_hs.specs.GroupPlaces.{link_of, links_of}
use Rattle.judy_hs.proofs.GroupLemmas.{groups-free}
use Rattle.judy_hs.proofs.groups.free_place.Goals as goal

pub returns-in-Some-clause-found : goal.returns-in-Some-clause-found
returns-in-Some-clause-found c =
    groups-free c.args.groups.now.items c.args.free c.requires c.args.free c.in-Some.next
    (inl (ap (λ (items : List GroupPlace). get_or (links_of items) c.args.free None) (sym c.deref.ensures.value) ∙ sym c.first_link.ensures ∙ c.in-Some.is, refl))

pub returns-in_ok-reserve-in-None-clause-found : goal.returns-in_ok-reserve-in-None-clause-found
returns-in_ok-reserve-in-None-clause-found c =
    groups-free c.args.groups.now.items c.args.free c.requires c.len.result c.args.free
    (inr (
      ap (λ (items : List GroupPlace). get_or (links_of items) c.args.free None) (sym c.deref.ensures.value) ∙ sym c.first_link.ensures ∙ c.in-None.is,
      c.len.ensures ∙ c.reserve.new.self.ok.0 ∙ ap (λ (items : List GroupPlace). length items) c.reserve.ensures.items ∙ sym (length-map c.args.groups.now.items link_of),
      refl,
    ))
