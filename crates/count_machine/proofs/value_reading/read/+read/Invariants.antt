-- Each call goes a level down, or from a type to its parts at the same level.
use Rattle.std.proofs.Common.{◌+◌, ◌*◌, drop, map}
use Rattle.sil_types_declarations.specs.TypeDefinitions.Contained.{field_type}
use Rattle.count_machine.proofs.ValueReading.Loops.{ReadsTypes}
use Rattle.count_machine.proofs.value_reading.read.+read.Given as goal

abbrev pub decreases-read_type : goal.decreases-read_type
decreases-read_type l = 5 * l.levels

abbrev pub decreases-read_named : goal.decreases-read_named
decreases-read_named l = 5 * l.levels + 4

abbrev pub decreases-read_fields : goal.decreases-read_fields
decreases-read_fields l = 5 * l.levels + 2

abbrev pub decreases-read_elements : goal.decreases-read_elements
decreases-read_elements l = 5 * l.levels + 2

abbrev pub decreases-read_case : goal.decreases-read_case
decreases-read_case l = 5 * l.levels + 3

abbrev pub decreases-read_optional : goal.decreases-read_optional
decreases-read_optional l = 5 * l.levels + 2

abbrev pub decreases-read_chosen : goal.decreases-read_chosen
decreases-read_chosen l = 5 * l.levels + 2

abbrev pub decreases-read_full : goal.decreases-read_full
decreases-read_full l = 5 * l.levels + 1

abbrev pub invariant-read_fields-loop-field : goal.invariant-read_fields-loop-field
invariant-read_fields-loop-field l =
    ReadsTypes l.table l.levels (map field_type l.fields) l.leaves l.members (map field_type (drop l.field-index l.fields)) l.rest

abbrev pub invariant-read_elements-loop-element : goal.invariant-read_elements-loop-element
invariant-read_elements-loop-element l =
    ReadsTypes l.table l.levels l.elements l.leaves l.members (drop l.element-index l.elements) l.rest
