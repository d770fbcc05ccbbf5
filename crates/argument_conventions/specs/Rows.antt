-- What each convention says of the location whose address is handed over.
use Rattle.std.specs.Prelude.{Bool, true, false, Option, Some, None}
use Rattle.argument_conventions.specs.declared.convention.AddressConvention.{AddressConvention}
use Rattle.argument_conventions.specs.declared.convention.AddressConvention.TheVariants.{Inout, In, InGuaranteed, Out}
use Rattle.argument_conventions.specs.declared.convention.ArgumentConvention.{ArgumentConvention}
use Rattle.argument_conventions.specs.declared.convention.ArgumentConvention.TheVariants as convention
use Rattle.argument_conventions.specs.declared.row.AddressRow.{AddressRow}
use Rattle.argument_conventions.specs.declared.row.CallEffect.{CallEffect}
use Rattle.argument_conventions.specs.declared.row.CallEffect.TheVariants.{Reads, Writes, Takes}
use Rattle.argument_conventions.specs.declared.row.Content.{Content}
use Rattle.argument_conventions.specs.declared.row.Content.TheVariants.{Empty, Full}

-- the table: what the location holds as it is handed over and as it is handed back, what the call counts as, and whether it may be shared
abbrev pub row_of : AddressConvention → AddressRow
row_of Inout = record { before = Full; after = Full; counts_as = Writes; shared = false }
row_of In = record { before = Full; after = Empty; counts_as = Takes; shared = false }
row_of InGuaranteed = record { before = Full; after = Full; counts_as = Reads; shared = true }
row_of Out = record { before = Empty; after = Full; counts_as = Writes; shared = false }

-- the row of an argument that is an address
abbrev pub address_row : ArgumentConvention → Option AddressRow
address_row convention.Plain = None
address_row convention.Owned = None
address_row convention.Guaranteed = None
address_row (convention.Address c) = Some (row_of c)

-- a part of a location is full where the whole is, so it may be handed over where it is full before and behind that
abbrev pub keeps_full_by : Content → Content → Bool
keeps_full_by Empty after = false
keeps_full_by Full Empty = false
keeps_full_by Full Full = true

abbrev pub keeps_full : AddressRow → Bool
keeps_full row = keeps_full_by row.before row.after

abbrev pub reads_by : CallEffect → Bool
reads_by Reads = true
reads_by Writes = false
reads_by Takes = false

-- the call changes nothing there
abbrev pub only_reads : AddressRow → Bool
only_reads row = reads_by row.counts_as
