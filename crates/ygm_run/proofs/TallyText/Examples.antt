-- The text of small files.
use Rattle.std.proofs.Common.{◌≡◌, [], ◌∷◌, codes, refl}
use Rattle.std.specs.Fmt.{digits}
use Rattle.ygm_run.specs.TallyText.{tally_text}

two_files : tally_text ((codes "b" ∷ codes "a" ∷ codes "b" ∷ []) ∷ (codes "a" ∷ codes "b" ∷ []) ∷ []) ≡ codes "2\ta\n3\tb\n"
unfolding digits
two_files = refl

empty_files : tally_text ([] ∷ [] ∷ []) ≡ []
unfolding digits
empty_files = refl

no_file : tally_text [] ≡ []
unfolding digits
no_file = refl

empty_lines : tally_text (([] ∷ [] ∷ codes "x" ∷ []) ∷ []) ≡ codes "2\t\n1\tx\n"
unfolding digits
empty_lines = refl

access_logs : tally_text ((codes "GET /" ∷ codes "GET /a" ∷ []) ∷ (codes "GET /" ∷ []) ∷ (codes "GET /" ∷ codes "POST /a" ∷ []) ∷ []) ≡ codes "3\tGET /\n1\tGET /a\n1\tPOST /a\n"
unfolding digits
access_logs = refl

-- items that are parts of one another, and the lowest and the highest byte
bytes_at_the_ends : tally_text (((255 ∷ []) ∷ codes "ab" ∷ (0 ∷ []) ∷ codes "a" ∷ [] ∷ (97 ∷ 0 ∷ []) ∷ []) ∷ []) ≡ 49 ∷ 9 ∷ 10 ∷ 49 ∷ 9 ∷ 0 ∷ 10 ∷ 49 ∷ 9 ∷ 97 ∷ 10 ∷ 49 ∷ 9 ∷ 97 ∷ 0 ∷ 10 ∷ 49 ∷ 9 ∷ 97 ∷ 98 ∷ 10 ∷ 49 ∷ 9 ∷ 255 ∷ 10 ∷ []
unfolding digits
bytes_at_the_ends = refl
