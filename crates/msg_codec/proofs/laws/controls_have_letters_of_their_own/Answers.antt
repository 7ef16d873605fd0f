use Rattle.msg_codec.proofs.Controls.Letters.{again, apart, bytes_of_each}
use Rattle.msg_codec.proofs.laws.controls_have_letters_of_their_own.Goals as goal

pub returns-clause-again : goal.returns-clause-again
returns-clause-again c = again

pub returns-clause-apart : goal.returns-clause-apart
returns-clause-apart c = apart

pub returns-clause-bytes : goal.returns-clause-bytes
returns-clause-bytes c = bytes_of_each
