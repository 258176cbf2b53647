-- What the adapters over std hold.
use Rattle.std.specs.Prelude.{ℕ}
use Rattle.io_ports.specs.declared.std_streams.StdSource.{StdSource}
use Rattle.io_ports.specs.declared.std_streams.StdSink.{StdSink}

-- the reader of a source, as it is then
abbrev pub reader_of : {R : Type 0} → StdSource R → R
reader_of source = source.inner

-- how often the source has failed
abbrev pub read_faults : {R : Type 0} → StdSource R → ℕ
read_faults source = source.faults

-- the writer of a sink, as it is then
abbrev pub writer_of : {W : Type 0} → StdSink W → W
writer_of sink = sink.inner

-- how often the sink has failed
abbrev pub write_faults : {W : Type 0} → StdSink W → ℕ
write_faults sink = sink.faults
