use Rattle.std.proofs.Common.{◌++◌, ◌∷◌, [], ap, sym, ◌∙◌, arith, append_assoc}
use Rattle.std.specs.Prelude.{slice_get}
use Rattle.std.proofs.lemmas.List.FromFn.{map-range_with_len_more}
use Rattle.argument_conventions.specs.Arguments.{arguments_of}
use Rattle.memory_rules_accesses.specs.Sources.{argument_source_or, entry_sources}
use Rattle.memory_rules_accesses.proofs.sources.add_given.Goals as goal

pub loop-n-preserved : goal.loop-n-preserved
loop-n-preserved c =
    let told = arguments_of c.args.signature.now in
    let before = c.args.sources.now.items in
    let n = c.loop-n.n in
    c.in_ok-push.ensures.items ∙ ap (λ v. v ++ c.argument_source.result ∷ []) c.loop-n.invariant
    ∙ append_assoc before (entry_sources c.args.table.now told n) (c.argument_source.result ∷ [])
    ∙ ap (λ s. before ++ (entry_sources c.args.table.now told n ++ s ∷ [])) (c.argument_source.ensures ∙ ap (argument_source_or c.args.table.now) c.argument.ensures)
    ∙ ap (λ v. before ++ v) (sym (map-range_with_len_more (λ k. argument_source_or c.args.table.now (slice_get told k)) 0 n n (omega arith)))
