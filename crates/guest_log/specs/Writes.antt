-- The write that a view shows, and the default write.
use Rattle.std.specs.Prelude.{[]}
use Rattle.migration_model.specs.Trace.{GuestWrite, write_with}
use Rattle.guest_log.specs.declared.write.WriteView.{WriteView}

abbrev pub shown : WriteView → GuestWrite
shown write = record { tick = write.tick; page = write.page; offset = write.offset; bytes = write.bytes.now }

-- the default write, past the end of a list
abbrev pub no_write : GuestWrite
no_write = write_with 0 0 0 []
