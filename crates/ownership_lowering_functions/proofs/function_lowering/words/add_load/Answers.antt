use Rattle.std.proofs.Common.{◌≡◌, ◌++◌, ◌∙◌, ◌∷◌, [], Option, Some, ap, map, sym, append_assoc}
use Rattle.std.specs.Prelude.{slice_get}
use Rattle.std.specs.List.{flat_map}
use Rattle.std.specs.Option.{option_to_list}
use Rattle.std.proofs.lemmas.List.{append-nil, map-append}
use Rattle.std.proofs.lemmas.Result.{on_ok_weaker}
use Rattle.sil_ast.specs.declared.inst.Qualifier.{Qualifier}
use Rattle.sil_ast.specs.declared.operands.Operand.{Operand}
use Rattle.ownership_lowering_model.specs.LoweredInsts.{loads_by, plain_load, retains_loaded}
use Rattle.ownership_lowering_model.specs.NewInsts.{loaded_from, retain}
use Rattle.ownership_lowering_functions.specs.FunctionLowering.inner.Drafts.{told, told_insts}
use Rattle.ownership_lowering_functions.proofs.function_lowering.words.add_load.Goals as goal

pub returns-in-Some : goal.returns-in-Some
returns-in-Some c = on_ok_weaker c.add_retains_loaded.result (λ made spare.
    let d = c.args.table.now in
    let i = c.args.inst.now in
    made
    ∙ ap (λ vs. told_insts c.push.new.self ++ map (λ v. retain d (loaded_from c.in-Some.place.now v)) vs) c.as_slice.ensures
    ∙ ap (λ ds. told_insts ds ++ retains_loaded d spare i.results c.in-Some.place.now) c.in_ok-push.ensures.ok
    ∙ ap (λ is. is ++ retains_loaded d spare i.results c.in-Some.place.now) (map-append told c.args.drafts.now (c.plain.result ∷ []) ∙ ap (λ x. told_insts c.args.drafts.now ++ x ∷ []) c.plain.ensures)
    ∙ append_assoc (told_insts c.args.drafts.now) (plain_load i ∷ []) (retains_loaded d spare i.results c.in-Some.place.now)
    ∙ ap (λ xs. told_insts c.args.drafts.now ++ (plain_load i ∷ xs)) (sym (append-nil (retains_loaded d spare i.results c.in-Some.place.now)))
    ∙ ap (λ (o : Option Operand). told_insts c.args.drafts.now ++ (plain_load i ∷ flat_map (retains_loaded d spare i.results) (option_to_list o))) (there c)
    ∙ ap (λ (q : Qualifier). told_insts c.args.drafts.now ++ loads_by d spare q i) (sym c.in-Copy.is)) c.add_retains_loaded.ensures
  where
    there : (c : goal.After-add_retains_loaded) → Some c.in-Some.place.now ≡ slice_get c.args.inst.now.operands 0
    there c = c.in-Some.ensures.value
