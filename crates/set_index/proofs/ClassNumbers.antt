-- Each class has one of the numbers of classes. Assumes nothing.
use Rattle.std.proofs.Common.{arith, ◌<◌}
use Rattle.set_index.specs.Members.{class_count, class_number}
use Rattle.set_index.specs.declared.members.Class.{Class}
use Rattle.set_index.specs.declared.members.Class.TheVariants.{Store, Mem, SetsAccu, Halt, Cas, Exit, NeedsEmpty, Check, Jump, Loads, Conditional}

pub class-below : (class : Class) → class_number class < class_count
class-below Store = omega arith
class-below Mem = omega arith
class-below SetsAccu = omega arith
class-below Halt = omega arith
class-below Cas = omega arith
class-below Exit = omega arith
class-below NeedsEmpty = omega arith
class-below Check = omega arith
class-below Jump = omega arith
class-below Loads = omega arith
class-below Conditional = omega arith
