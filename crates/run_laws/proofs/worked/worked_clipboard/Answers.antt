use Rattle.std.proofs.Common.{refl}
use Rattle.run_laws.specs.WorkedRows.{red, whole, small_desktop, bytes, just, version, focus_in, focus_out, keyboard, focused}
use Rattle.run_laws.specs.WorkedGuests.{green, shared_desktop, green_bytes, mapped_at, outcome_of, greeting_to, both_greeted}
use Rattle.run_laws.specs.WorkedInput.{moved_to, pressed, key, clip_asked, entered_at, pressed_at, released_at, focus_passes, wide_desktop, both_apart, told_apart}
use Rattle.run_laws.specs.WorkedClipboard.{copy, paste, red_text, green_text, red_data, green_data, clip_given, clip_behind, told_denied}
use Rattle.run_laws.proofs.worked.worked_clipboard.Goals as goal

pub returns-clause-copied_and_pasted : goal.returns-clause-copied_and_pasted
unfolding red whole small_desktop bytes just version focus_in focus_out keyboard focused green shared_desktop green_bytes mapped_at outcome_of greeting_to both_greeted moved_to pressed key clip_asked entered_at pressed_at released_at focus_passes wide_desktop both_apart told_apart copy paste red_text green_text red_data green_data clip_given clip_behind told_denied
returns-clause-copied_and_pasted c = refl

pub returns-clause-data_of_another : goal.returns-clause-data_of_another
unfolding red whole small_desktop bytes just version focus_in focus_out keyboard focused green shared_desktop green_bytes mapped_at outcome_of greeting_to both_greeted moved_to pressed key clip_asked entered_at pressed_at released_at focus_passes wide_desktop both_apart told_apart copy paste red_text green_text red_data green_data clip_given clip_behind told_denied
returns-clause-data_of_another c = refl

pub returns-clause-ended_after_its_answer : goal.returns-clause-ended_after_its_answer
unfolding red whole small_desktop bytes just version focus_in focus_out keyboard focused green shared_desktop green_bytes mapped_at outcome_of greeting_to both_greeted moved_to pressed key clip_asked entered_at pressed_at released_at focus_passes wide_desktop both_apart told_apart copy paste red_text green_text red_data green_data clip_given clip_behind told_denied
returns-clause-ended_after_its_answer c = refl

pub returns-clause-ended_before_its_answer : goal.returns-clause-ended_before_its_answer
unfolding red whole small_desktop bytes just version focus_in focus_out keyboard focused green shared_desktop green_bytes mapped_at outcome_of greeting_to both_greeted moved_to pressed key clip_asked entered_at pressed_at released_at focus_passes wide_desktop both_apart told_apart copy paste red_text green_text red_data green_data clip_given clip_behind told_denied
returns-clause-ended_before_its_answer c = (refl, refl)

pub returns-clause-asked_again : goal.returns-clause-asked_again
unfolding red whole small_desktop bytes just version focus_in focus_out keyboard focused green shared_desktop green_bytes mapped_at outcome_of greeting_to both_greeted moved_to pressed key clip_asked entered_at pressed_at released_at focus_passes wide_desktop both_apart told_apart copy paste red_text green_text red_data green_data clip_given clip_behind told_denied
returns-clause-asked_again c = refl

pub returns-clause-denied_pair : goal.returns-clause-denied_pair
unfolding red whole small_desktop bytes just version focus_in focus_out keyboard focused green shared_desktop green_bytes mapped_at outcome_of greeting_to both_greeted moved_to pressed key clip_asked entered_at pressed_at released_at focus_passes wide_desktop both_apart told_apart copy paste red_text green_text red_data green_data clip_given clip_behind told_denied
returns-clause-denied_pair c = refl

pub returns-clause-other_way_round : goal.returns-clause-other_way_round
unfolding red whole small_desktop bytes just version focus_in focus_out keyboard focused green shared_desktop green_bytes mapped_at outcome_of greeting_to both_greeted moved_to pressed key clip_asked entered_at pressed_at released_at focus_passes wide_desktop both_apart told_apart copy paste red_text green_text red_data green_data clip_given clip_behind told_denied
returns-clause-other_way_round c = refl

pub returns-clause-limit_of_revisions : goal.returns-clause-limit_of_revisions
unfolding red whole small_desktop bytes just version focus_in focus_out keyboard focused green shared_desktop green_bytes mapped_at outcome_of greeting_to both_greeted moved_to pressed key clip_asked entered_at pressed_at released_at focus_passes wide_desktop both_apart told_apart copy paste red_text green_text red_data green_data clip_given clip_behind told_denied
returns-clause-limit_of_revisions c = (refl, refl)
