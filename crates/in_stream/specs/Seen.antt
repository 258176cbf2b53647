-- What a borrowed `Front` shows.
use Rattle.in_stream.specs.declared.Front.{Front}
use Rattle.in_stream.specs.declared.Front.TheVariants as front
use Rattle.in_stream.specs.Shown.{Shown, Whole, Bad, ClipLong, Skipped, Skipping, Need}

-- a front, with what it borrows
abbrev pub seen : Front → Shown
seen (front.Whole header body) = Whole header body.now
seen (front.Bad header fault) = Bad header fault
seen (front.ClipLong header) = ClipLong header
seen (front.Skipped header) = Skipped header
seen (front.Skipping left) = Skipping left
seen (front.Need more) = Need more
