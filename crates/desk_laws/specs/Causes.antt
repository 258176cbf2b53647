-- How a cause stands in an Ended record. The numbers are this project's own.
use Rattle.std.specs.Prelude.{ℕ}
use Rattle.desk_laws.specs.declared.cause.Cause.{Cause}
use Rattle.desk_laws.specs.declared.cause.Cause.TheVariants.{BadVersion, BadType, BadLength, BadRange, UnknownWindow, WindowExists, TooManyWindows, RefRange, FrameBudget, PixelBudget, ClipTooLong, StreamEnded, LinkFailed}

-- the number of a cause
abbrev pub number_of : Cause → ℕ
number_of (BadVersion a b) = 1
number_of (BadType a b) = 2
number_of (BadLength a b) = 3
number_of (BadRange a b) = 4
number_of (UnknownWindow a b) = 5
number_of (WindowExists a b) = 6
number_of (TooManyWindows a b) = 7
number_of (RefRange a b) = 8
number_of (FrameBudget a b) = 9
number_of (PixelBudget a b) = 10
number_of (ClipTooLong a b) = 11
number_of (StreamEnded a b) = 12
number_of (LinkFailed a b) = 13

-- the two values of a cause
abbrev pub values_of : Cause → ℕ × ℕ
values_of (BadVersion a b) = (a, b)
values_of (BadType a b) = (a, b)
values_of (BadLength a b) = (a, b)
values_of (BadRange a b) = (a, b)
values_of (UnknownWindow a b) = (a, b)
values_of (WindowExists a b) = (a, b)
values_of (TooManyWindows a b) = (a, b)
values_of (RefRange a b) = (a, b)
values_of (FrameBudget a b) = (a, b)
values_of (PixelBudget a b) = (a, b)
values_of (ClipTooLong a b) = (a, b)
values_of (StreamEnded a b) = (a, b)
values_of (LinkFailed a b) = (a, b)
