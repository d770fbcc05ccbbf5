use Rattle.std.proofs.Common.{ap, ◌∙◌}
use Rattle.std.specs.List.{list_any}
use Rattle.std.specs.Prelude.{◌||◌}
use Rattle.sil_types.specs.inner.Limits.{exceeds}
use Rattle.sil_types_declarations.specs.TypeDefinitions.Mentions.{mentions_of}
use Rattle.sil_types_items.specs.TypeItemRules.Faults.{is_wrong_type}
use Rattle.sil_types.proofs.wrong.any_wrong_type.Goals as goal

pub returns : goal.returns
returns c =
    let d = c.args.table.now in
    c.any_in_module.ensures
    ∙ ap (λ e. list_any (λ t. is_wrong_type e t || exceeds c.new.result.what e t) (mentions_of c.args.m.now)) c.new.ensures.types
    ∙ ap (λ what. list_any (λ t. is_wrong_type d t || exceeds what d t) (mentions_of c.args.m.now)) c.new.ensures.limit
