use Rattle.std.proofs.Common.{refl}
use Rattle.run_laws.specs.WorkedRows.{red, whole, small_desktop, bytes, version}
use Rattle.run_laws.specs.WorkedMessages.{create, made, rows_after, row_after, family}
use Rattle.run_laws.proofs.worked.worked_messages.Goals as goal

pub returns-clause-unmapped : goal.returns-clause-unmapped
unfolding red whole small_desktop bytes version create made rows_after row_after family
returns-clause-unmapped c = refl

pub returns-clause-unmapped_twice : goal.returns-clause-unmapped_twice
unfolding red whole small_desktop bytes version create made rows_after row_after family
returns-clause-unmapped_twice c = refl

pub returns-clause-names_kept : goal.returns-clause-names_kept
unfolding red whole small_desktop bytes version create made rows_after row_after family
returns-clause-names_kept c = refl

pub returns-clause-destroyed : goal.returns-clause-destroyed
unfolding red whole small_desktop bytes version create made rows_after row_after family
returns-clause-destroyed c = refl

pub returns-clause-unknown_names : goal.returns-clause-unknown_names
unfolding red whole small_desktop bytes version create made rows_after row_after family
returns-clause-unknown_names c = refl

pub returns-clause-title_cut : goal.returns-clause-title_cut
unfolding red whole small_desktop bytes version create made rows_after row_after family
returns-clause-title_cut c = refl

pub returns-clause-title_whole : goal.returns-clause-title_whole
unfolding red whole small_desktop bytes version create made rows_after row_after family
returns-clause-title_whole c = refl

pub returns-clause-class_and_name : goal.returns-clause-class_and_name
unfolding red whole small_desktop bytes version create made rows_after row_after family
returns-clause-class_and_name c = refl

pub returns-clause-hints_kept : goal.returns-clause-hints_kept
unfolding red whole small_desktop bytes version create made rows_after row_after family
returns-clause-hints_kept c = refl

pub returns-clause-docked : goal.returns-clause-docked
unfolding red whole small_desktop bytes version create made rows_after row_after family
returns-clause-docked c = refl

pub returns-clause-cursor_kept : goal.returns-clause-cursor_kept
unfolding red whole small_desktop bytes version create made rows_after row_after family
returns-clause-cursor_kept c = refl

pub returns-clause-set_after_unset : goal.returns-clause-set_after_unset
unfolding red whole small_desktop bytes version create made rows_after row_after family
returns-clause-set_after_unset c = refl

pub returns-clause-three_flags : goal.returns-clause-three_flags
unfolding red whole small_desktop bytes version create made rows_after row_after family
returns-clause-three_flags c = refl

pub returns-clause-dump_kept : goal.returns-clause-dump_kept
unfolding red whole small_desktop bytes version create made rows_after row_after family
returns-clause-dump_kept c = refl

pub returns-clause-brought_into_range : goal.returns-clause-brought_into_range
unfolding red whole small_desktop bytes version create made rows_after row_after family
returns-clause-brought_into_range c = refl
