-- Which answers end in a digest: those of the calls that are lent buffers to write. Assumes nothing.
use Rattle.std.specs.Prelude.{Bool, true, false}
use Rattle.answers.specs.declared.Answer.{Answer}
use Rattle.answers.specs.declared.Answer.TheVariants as Answer

abbrev pub has_digest : Answer → Bool
has_digest (Answer.Started a) = false
has_digest (Answer.Asked a) = false
has_digest (Answer.Levels a) = true
has_digest (Answer.Decoded a) = false
has_digest (Answer.Changed a) = true
has_digest (Answer.Uploaded a) = true
