-- The causes of faults and their numbers. Assumes nothing.
use Rattle.std.specs.Prelude.{ℕ}
use Rattle.plan.specs.declared.fault.Cause.{Cause}
use Rattle.plan.specs.declared.fault.Cause.TheVariants.{TextTooLong, LineNotEnded, UnknownLine, FieldCount, NotANumber, RowNumber, RowPeriod, RowMarks, CycleTooLong, NoRow, TaskNumber, TaskTimes}

abbrev pub cause_number : Cause → ℕ
cause_number TextTooLong = 1
cause_number LineNotEnded = 2
cause_number UnknownLine = 3
cause_number FieldCount = 4
cause_number NotANumber = 5
cause_number RowNumber = 6
cause_number RowPeriod = 7
cause_number RowMarks = 8
cause_number CycleTooLong = 9
cause_number NoRow = 10
cause_number TaskNumber = 11
cause_number TaskTimes = 12
