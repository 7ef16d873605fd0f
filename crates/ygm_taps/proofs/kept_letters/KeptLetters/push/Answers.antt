use Rattle.ygm_taps.proofs.Places.LastLetter.{last_letter}
use Rattle.ygm_taps.proofs.kept_letters.KeptLetters.push.Goals as goal

pub returns-clause-last : goal.returns-clause-last
returns-clause-last c =
    let inside = c.self.inside in
    rw (c.push_reserved.ensures.items, c.reserve.ensures.items, c.in_ok-extend_from_slice.ensures.items, ← c.self.view_is, c.len.ensures, inside.bytes.ok.0)
    (last_letter inside.bytes.items c.args.body.now inside.places.items c.args.from c.args.tag c.self.invariant)
