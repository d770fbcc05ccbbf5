-- Whether a run may begin with a function, by its name.
use Rattle.std.specs.Prelude.{Bool, ◌&&◌}
use Rattle.std.specs.Str.{bytes_eq}
use Rattle.holder_model.specs.Outcomes.{may_start}
use Rattle.numbered_form.specs.Names.{Name}
use Rattle.sil_ast.specs.declared.function.Function.{Function}

abbrev pub is_entry : Name → Function → Bool
is_entry name f = bytes_eq f.name name && may_start f
