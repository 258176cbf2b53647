-- How the program ends: the number and the line of each status, and what becomes of it outside of the top call. All of
-- it is this project's own.
use Rattle.std.specs.Prelude.{ℕ, List, [], ◌∷◌, ◌++◌, codes, decimal, Bool, true, false}
use Rattle.std.specs.declared.io.ErrorKind.{ErrorKind}
use Rattle.std.specs.declared.io.ErrorKind.TheVariants as errors
use Rattle.io_ports.specs.declared.feed.RecordKind.{RecordKind}
use Rattle.io_ports.specs.declared.feed.RecordKind.TheVariants as kinds
use Rattle.guid_main.specs.declared.status.Status.{Status}
use Rattle.guid_main.specs.declared.status.Status.TheVariants as statuses

-- the number that the program ends with
abbrev pub number_of : Status → ℕ
number_of statuses.Done = 0
number_of statuses.Usage = 2
number_of (statuses.BadConfig k) = 3
number_of (statuses.BadRecord f) = 4
number_of statuses.ReadFault = 5
number_of statuses.WriteFault = 6
number_of statuses.NoMemory = 7
number_of statuses.TooLong = 9

-- the word for a kind of fault
abbrev pub kind_name : RecordKind → List ℕ
kind_name kinds.Magic = codes "magic"
kind_name kinds.Kind = codes "kind"
kind_name kinds.Range = codes "range"
kind_name kinds.Short = codes "short"

-- the line of a status, without the newline that ends it
abbrev pub line_of : Status → List ℕ
line_of statuses.Done = []
line_of statuses.Usage = codes "usage: guid replay | guid make N"
line_of (statuses.BadConfig k) = codes "bad configuration: rule " ++ decimal k
line_of (statuses.BadRecord f) = codes "bad record at " ++ decimal f.offset ++ codes ": " ++ kind_name f.kind
line_of statuses.ReadFault = codes "read fault"
line_of statuses.WriteFault = codes "write fault"
line_of statuses.NoMemory = codes "out of memory"
line_of statuses.TooLong = codes "input too long"

-- what is told of a status on standard error: its line with a newline, and of Done nothing
abbrev pub told_of : Status → List ℕ
told_of statuses.Done = []
told_of status = line_of status ++ 10 ∷ []

-- what becomes of a status once the output was flushed, or couldn't be
abbrev pub after_flush : Status → Bool → Status
after_flush status true = status
after_flush status false = statuses.WriteFault

-- the status where the program's words can't be had, for such an error
abbrev pub after_args : ErrorKind → Status
after_args errors.OutOfMemory = statuses.NoMemory
after_args kind = statuses.Usage
