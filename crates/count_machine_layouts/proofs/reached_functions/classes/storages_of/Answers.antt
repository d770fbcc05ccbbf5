use Rattle.std.proofs.Common.{map}
use Rattle.sil_types_declarations.specs.TypeDefinitions.Lookups.{chain_fields}
use Rattle.count_machine_model.specs.ReadyCode.ReadyModules.{storage_of}
use Rattle.count_machine_layouts.specs.ReachedFunctions.inner.Names.{names_told}
use Rattle.count_machine_layouts.proofs.ReachedFunctions.ClassLines.{storages_next}
use Rattle.count_machine_layouts.proofs.reached_functions.classes.storages_of.Goals as goal

pub loop-class-preserved : goal.loop-class-preserved
loop-class-preserved c =
    let d = c.args.table.now in
    storages_next d c.loop-class.chain.items c.pop.new.self.items c.pop.result c.in-Some.class c.own_fields.result.now
    c.loop-class.storages c.add_storages.new.storages
    (map storage_of (chain_fields d (names_told c.args.chain.items))) c.pop.ensures.items c.in-Some.is
    c.own_fields.ensures c.in_ok-add_storages.ensures c.loop-class.invariant
