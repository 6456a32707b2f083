-- The texts of the faults.
use Rattle.std.specs.Prelude.{ℕ, List, codes}
use Rattle.ns_live.specs.declared.fault.LiveFault.{LiveFault}
use Rattle.ns_live.specs.declared.fault.LiveFault.TheVariants.{OutOfMemory, NoThread}

-- a fault as it prints
abbrev pub live_fault_text : LiveFault → List ℕ
live_fault_text OutOfMemory = codes "out of memory"
live_fault_text NoThread = codes "a thread could not be made"
