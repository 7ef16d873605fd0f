-- Words of the laws.
use Rattle.std.specs.Prelude.{◌≡◌, ℕ, Bool, IsTrue}
use Rattle.msg_codec.specs.declared.letter.Letter.{Letter}

-- only letters to this destination pass the test
abbrev pub PassesOnlyTo : ℕ → (Letter → Bool) → Type 0
PassesOnlyTo to test = (l : Letter) → IsTrue (test l) → l.to ≡ to
