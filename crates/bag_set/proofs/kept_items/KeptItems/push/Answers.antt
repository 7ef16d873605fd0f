use Rattle.bag_set.proofs.Places.LastItem.{last_item}
use Rattle.bag_set.proofs.kept_items.KeptItems.push.Goals as goal

pub returns-clause-last : goal.returns-clause-last
returns-clause-last c =
    let inside = c.self.inside in
    rw (c.push_reserved.ensures.items, c.reserve.ensures.items, c.in_ok-extend_from_slice.ensures.items, ← c.self.view_is, c.len.ensures, inside.bytes.ok.0)
    (last_item inside.bytes.items c.args.item.now inside.places.items c.self.invariant)
