use Rattle.std.proofs.Common.{Some, sym, ap, ◌∙◌}
use Rattle.module_runner_report.proofs.Forms.{class_text, enum_text, struct_text, unknown_text}
use Rattle.module_runner_report.proofs.layers.declared_layer.Goals as goal

pub returns-in-Some-Struct : goal.returns-in-Some-Struct
returns-in-Some-Struct c = λ left v.
    struct_text c.args.table.now c.requires c.args.name.now left v c.in-Some-Struct.name c.as_slice.result.now c.in-Some-Struct.fields c.as_slice-in-Some-Struct.result.now
    (sym (ap Some c.in-Some-Struct.field-0-is) ∙ c.in-Some-Struct.ensures) c.as_slice.ensures c.as_slice-in-Some-Struct.ensures

pub returns-in-Some-Enum : goal.returns-in-Some-Enum
returns-in-Some-Enum c = λ left v.
    enum_text c.args.table.now c.requires c.args.name.now left v c.in-Some-Enum.name c.as_slice-in-Some-Enum.result.now c.in-Some-Enum.cases
    c.as_slice-in-Some-Enum-2.result.now (sym (ap Some c.in-Some-Enum.field-0-is) ∙ c.in-Some-Enum.ensures) c.as_slice-in-Some-Enum.ensures
    c.as_slice-in-Some-Enum-2.ensures

pub returns-in-Some-Class : goal.returns-in-Some-Class
returns-in-Some-Class c = λ left v.
    let k = c.in-Some-Class in
    class_text c.args.table.now c.requires c.args.name.now left v k.field-0-0 k.field-0-1 k.field-0-2 (sym (ap Some k.field-0-is) ∙ k.ensures)

pub returns-in-None : goal.returns-in-None
returns-in-None c = λ left v. unknown_text c.args.table.now c.requires c.args.name.now left v c.in-None.ensures
