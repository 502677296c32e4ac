-- What a register fabric means.
use Rattle.plant.specs.declared.fabric.RegisterFabric.{RegisterFabric}
use Rattle.plant.specs.Registers.{fabric_switch}
use Rattle.plant.specs.Switch.{Switch}

abbrev pub fabric_of : RegisterFabric → Switch
fabric_of f = fabric_switch f.waves f.groups f.registers.now
