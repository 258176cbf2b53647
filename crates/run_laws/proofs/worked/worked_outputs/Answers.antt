use Rattle.std.proofs.Common.{refl}
use Rattle.run_laws.specs.WorkedRows.{red, whole, small_desktop, bytes, just, version, focus_in, keyboard, focused}
use Rattle.run_laws.specs.WorkedGuests.{green, shared_desktop, desktop_of, mapped_at, outcome_of, greeting_to, none, red_label, grey}
use Rattle.run_laws.specs.WorkedInput.{moved_to, entered_at, configured_to}
use Rattle.run_laws.specs.WorkedOutputs.{output_from, parted_desktop, told_parted, left_part, right_part, halved_desktop, told_halved, halved_greeting, placed_at, ruled, apart, pair}
use Rattle.run_laws.proofs.worked.worked_outputs.Goals as goal

pub returns-clause-pictures_of_outputs : goal.returns-clause-pictures_of_outputs
unfolding red whole small_desktop bytes just version focus_in keyboard focused green shared_desktop desktop_of mapped_at outcome_of greeting_to none red_label grey moved_to entered_at configured_to output_from parted_desktop told_parted left_part right_part halved_desktop told_halved halved_greeting placed_at ruled apart pair
returns-clause-pictures_of_outputs c = refl

pub returns-clause-pointer_between_outputs : goal.returns-clause-pointer_between_outputs
unfolding red whole small_desktop bytes just version focus_in keyboard focused green shared_desktop desktop_of mapped_at outcome_of greeting_to none red_label grey moved_to entered_at configured_to output_from parted_desktop told_parted left_part right_part halved_desktop told_halved halved_greeting placed_at ruled apart pair
returns-clause-pointer_between_outputs c = refl

pub returns-clause-override_in_the_second : goal.returns-clause-override_in_the_second
unfolding red whole small_desktop bytes just version focus_in keyboard focused green shared_desktop desktop_of mapped_at outcome_of greeting_to none red_label grey moved_to entered_at configured_to output_from parted_desktop told_parted left_part right_part halved_desktop told_halved halved_greeting placed_at ruled apart pair
returns-clause-override_in_the_second c = refl

pub returns-clause-override_in_none : goal.returns-clause-override_in_none
unfolding red whole small_desktop bytes just version focus_in keyboard focused green shared_desktop desktop_of mapped_at outcome_of greeting_to none red_label grey moved_to entered_at configured_to output_from parted_desktop told_parted left_part right_part halved_desktop told_halved halved_greeting placed_at ruled apart pair
returns-clause-override_in_none c = refl

pub returns-clause-full_screen_in_the_second : goal.returns-clause-full_screen_in_the_second
unfolding red whole small_desktop bytes just version focus_in keyboard focused green shared_desktop desktop_of mapped_at outcome_of greeting_to none red_label grey moved_to entered_at configured_to output_from parted_desktop told_parted left_part right_part halved_desktop told_halved halved_greeting placed_at ruled apart pair
returns-clause-full_screen_in_the_second c = refl

pub returns-clause-share_of_an_output : goal.returns-clause-share_of_an_output
unfolding red whole small_desktop bytes just version focus_in keyboard focused green shared_desktop desktop_of mapped_at outcome_of greeting_to none red_label grey moved_to entered_at configured_to output_from parted_desktop told_parted left_part right_part halved_desktop told_halved halved_greeting placed_at ruled apart pair
returns-clause-share_of_an_output c = (refl, refl)

pub returns-clause-outputs_break_rules : goal.returns-clause-outputs_break_rules
unfolding red whole small_desktop bytes just version focus_in keyboard focused green shared_desktop desktop_of mapped_at outcome_of greeting_to none red_label grey moved_to entered_at configured_to output_from parted_desktop told_parted left_part right_part halved_desktop told_halved halved_greeting placed_at ruled apart pair
returns-clause-outputs_break_rules c = (refl, (refl, refl))

pub returns-clause-clipboard_breaks_rules : goal.returns-clause-clipboard_breaks_rules
unfolding red whole small_desktop bytes just version focus_in keyboard focused green shared_desktop desktop_of mapped_at outcome_of greeting_to none red_label grey moved_to entered_at configured_to output_from parted_desktop told_parted left_part right_part halved_desktop told_halved halved_greeting placed_at ruled apart pair
returns-clause-clipboard_breaks_rules c = (refl, (refl, refl))

pub returns-clause-no_rule_broken : goal.returns-clause-no_rule_broken
unfolding red whole small_desktop bytes just version focus_in keyboard focused green shared_desktop desktop_of mapped_at outcome_of greeting_to none red_label grey moved_to entered_at configured_to output_from parted_desktop told_parted left_part right_part halved_desktop told_halved halved_greeting placed_at ruled apart pair
returns-clause-no_rule_broken c = refl
