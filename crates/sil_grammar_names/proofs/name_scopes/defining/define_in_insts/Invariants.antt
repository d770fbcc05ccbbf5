use Rattle.std.proofs.Common.{◌≡◌, take}
use Rattle.std.specs.List.{flat_map}
use Rattle.sil_grammar_names.specs.NameScopes.inner.Symbols.{definitions_by, with_definitions}
use Rattle.sil_grammar_names.proofs.name_scopes.defining.define_in_insts.Given as goal

abbrev pub invariant-loop-inst : goal.invariant-loop-inst
invariant-loop-inst l = l.table ≡ with_definitions l.initial.table (flat_map definitions_by (take l.inst-index l.insts))
