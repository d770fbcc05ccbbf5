use Rattle.std.proofs.Common.{sym, ap, ◌∙◌, ◌≤◌, subst, map, length}
use Rattle.std.proofs.lemmas.List.{take_all}
use Rattle.sil_types_declarations.specs.number_tables.ContainmentOrder.Chains.{IsInRange}
use Rattle.sil_types_declarations.specs.TypeDefinitions.Contained.{lower_places}
use Rattle.sil_types_declarations.specs.TypeDefinitions.Declarations.{all_decls}
use Rattle.sil_types_items.proofs.TypeMeasures.Placing.{graph_in_range}
use Rattle.sil_types_items.proofs.type_measures.graph.containment.Goals as goal

pub returns-clause-range : goal.returns-clause-range
returns-clause-range c =
    let d = c.args.table.now in
    let all = subst (λ ds. length ds ≤ c.loop-decl.decl-index) c.decls-decl-items.ensures c.loop-decl-test.false in
    let graph = c.loop-decl.invariant ∙ ap (map (lower_places d)) (take_all c.loop-decl.decl-index (all_decls d) all) in
    subst IsInRange (sym graph) (graph_in_range d)
