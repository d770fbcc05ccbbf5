use Rattle.std.proofs.Common.{ap, ◌∙◌}
use Rattle.std.specs.Str.{bytes_eq}
use Rattle.indexmap.specs.IndexSet.{insert_key}
use Rattle.sil_types_declarations.proofs.TypeDeclarations.Names.{inserted_new}
use Rattle.sil_types_declarations.proofs.type_declarations.name_index.NameIndex.add.Goals as goal

pub returns : goal.returns
returns c =
    c.in_ok-insert.ensures.keys
    ∙ ap (λ n. insert_key bytes_eq c.self.inside.names.keys n) c.in_ok-try_clone.ensures
    ∙ ap (λ ks. insert_key bytes_eq ks c.args.name.now) c.self.view_is
    ∙ inserted_new c.args.self.now c.args.name.now c.requires
