use Rattle.std.proofs.Common.{rules, ◌≡◌, ℕ, ◌*◌, List, replicate, None, Option, sym, subst}
use Rattle.atomic_table.specs.Table.{opening}
use Rattle.msg_codec.specs.declared.letter.Letter.{Letter}
use Rattle.mail_table.specs.Rule.{Rule}
use Rattle.mail_table.specs.Views.{fresh_view}
use Rattle.mail_table.specs.Words.{slots_of, words_of}
use Rattle.mail_table.proofs.Rule.Passes.{starts}
use Rattle.mail_table.proofs.links.Links.new.Goals as goal

pub vacant-requires : goal.vacant-requires
vacant-requires c =
    let settings = c.args.settings in
    let words : c.as_slice.result.now ≡ replicate {A = ℕ} (words_of settings.layout.ranks) 0 = search rules in
    let count : c.ranks-ranks.result * c.ranks-ranks.result * settings.ring ≡ slots_of settings.layout.ranks settings.ring = search rules in
    subst (λ (z : List ℕ × ℕ). Rule settings (opening z.0 (replicate {A = Option (List Letter)} z.1 None) (fresh_view settings))) (λ i. (sym words i, sym count i))
    (starts settings c.a_fresh_world_is_sound.ensures c.requires)
