use Rattle.std.proofs.Common.{◌≡◌, take, map}
use Rattle.sil_grammar_names.specs.NameScopes.Names.{arg_name}
use Rattle.sil_grammar_names.specs.NameScopes.inner.Symbols.{numbered, with_definitions}
use Rattle.sil_grammar_names.proofs.name_scopes.defining.define_args.Given as goal

abbrev pub invariant-loop-arg : goal.invariant-loop-arg
invariant-loop-arg l = l.table ≡ with_definitions l.initial.table (map numbered (map arg_name (take l.arg-index l.args)))
