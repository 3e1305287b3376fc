-- The numbers of the reasons, and the innermost fault: the reason with the layer that tells it and its place, and how it is printed.
use Rattle.std.specs.Prelude.{ℕ, List, ◌++◌, codes}
use Rattle.std.specs.Fmt.{decimal}
use Rattle.faults.specs.declared.Reason.{Reason}
use Rattle.faults.specs.declared.Reason.TheVariants.{BenchEmpty, BadLength, EndsInField, NoEquations, TooDeep, NoSuchSort, NoSuchName, ValueTooLarge, WrongSort, NotEnded, ResultTooLong, TooManyInstances, BooleanTooLong, RankOfBothSigns, TooFewTruths, TruthSortSize, BadCountingSizes}
use Rattle.faults.specs.declared.Layer.TheVariants.{Table, Read, Pass, Expand, Solve}
use Rattle.faults.specs.declared.Layer.{Layer}
use Rattle.faults.specs.declared.Stop.{Stop}
use Rattle.faults.specs.declared.Fault.{Fault}
use Rattle.faults.specs.declared.TableFault.{TableFault}
use Rattle.faults.specs.declared.ReadFault.{ReadFault}
use Rattle.faults.specs.declared.PassFault.{PassFault}
use Rattle.faults.specs.declared.PassFault.TheVariants.{Reading, Declined}
use Rattle.faults.specs.declared.SettleFault.{SettleFault}
use Rattle.faults.specs.declared.ExpandFault.{ExpandFault}
use Rattle.faults.specs.declared.ExpandFault.TheVariants.{Unread, Refused}
use Rattle.faults.specs.declared.SolveFault.{SolveFault}

abbrev pub number_of : Reason → ℕ
number_of BenchEmpty = 1
number_of BadLength = 2
number_of EndsInField = 3
number_of NoEquations = 4
number_of TooDeep = 5
number_of NoSuchSort = 6
number_of NoSuchName = 7
number_of ValueTooLarge = 8
number_of WrongSort = 9
number_of NotEnded = 10
number_of ResultTooLong = 11
number_of TooManyInstances = 12
number_of BooleanTooLong = 13
number_of RankOfBothSigns = 14
number_of TooFewTruths = 15
number_of TruthSortSize = 16
number_of BadCountingSizes = 17

-- what stops reading is the fault of the layer that reads
abbrev pub table_stop : Stop → TableFault
table_stop s = record { reason = s.reason; place = s.place }

abbrev pub read_stop : Stop → ReadFault
read_stop s = record { reason = s.reason; place = s.place }

abbrev pub solve_stop : Stop → SolveFault
solve_stop s = record { reason = s.reason; place = s.place }

abbrev pub of_table : TableFault → Fault
of_table e = record { reason = e.reason; layer = Table; place = e.place }

abbrev pub of_read : ReadFault → Fault
of_read e = record { reason = e.reason; layer = Read; place = e.place }

-- a reading fault lies whole inside a pass's
abbrev pub of_pass : PassFault → Fault
of_pass (Reading e) = of_read e
of_pass (Declined r) = record { reason = r; layer = Pass; place = 0 }

abbrev pub of_settle : SettleFault → Fault
of_settle e = of_pass e.halt.fault

abbrev pub of_expand : ExpandFault → Fault
of_expand (Unread e) = of_read e
of_expand (Refused r) = record { reason = r; layer = Expand; place = 0 }

abbrev pub of_solve : SolveFault → Fault
of_solve e = record { reason = e.reason; layer = Solve; place = e.place }

abbrev pub layer_name : Layer → List ℕ
layer_name Table = codes "TABLE"
layer_name Read = codes "READ"
layer_name Pass = codes "PASS"
layer_name Expand = codes "EXPAND"
layer_name Solve = codes "SOLVE"

-- number, layer and place, with a blank between
abbrev pub fault_text : Fault → List ℕ
fault_text e = decimal (number_of e.reason) ++ (codes " " ++ (layer_name e.layer ++ (codes " " ++ decimal e.place)))
