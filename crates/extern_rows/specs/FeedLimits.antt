-- The limits that a feed keeps, as refusals.
use Rattle.extern_rows.specs.declared.feed.Limit.{Limit}
use Rattle.extern_rows.specs.declared.feed.Limit.TheVariants.{Length, Count}
use Rattle.extern_rows.specs.declared.fault.RowFault.{RowFault}
use Rattle.extern_rows.specs.declared.fault.RowFault.TheVariants.{LineTooLong, TooManyLines}

abbrev pub fault_of : Limit → RowFault
fault_of Length = LineTooLong
fault_of Count = TooManyLines
