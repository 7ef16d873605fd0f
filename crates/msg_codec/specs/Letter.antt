-- Letters as values: who sent them, to whom, with what tag and body.
use Rattle.msg_codec.specs.declared.letter.Letter.{Letter}
use Rattle.msg_codec.specs.declared.letter.LetterRef.{LetterRef}

-- the letter that a borrowed one shows
abbrev pub letter_of : LetterRef → Letter
letter_of l = record { to = l.to; from = l.from; tag = l.tag; body = l.body.now }
