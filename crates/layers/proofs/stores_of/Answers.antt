use native.Mathlib.Omega.{arith}
use Rattle.layers.specs.TwoLayers.{stores}
use Rattle.layers.proofs.stores_of.Goals as goal

pub returns-in-Absent : goal.returns-in-Absent
unfolding stores
returns-in-Absent c = grind arith

pub returns-in-Lower : goal.returns-in-Lower
unfolding stores
returns-in-Lower c = grind arith
