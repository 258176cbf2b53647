use Rattle.std.proofs.Common.{refl}
use Rattle.run_laws.specs.WorkedRows.{red, whole, small_desktop, bytes, just, version, window_at, posts, greeting, focus_in, focus_out, keyboard, focused, background, label, blank, ring}
use Rattle.run_laws.specs.WorkedGuests.{green, shared_desktop, green_bytes, mapped_at, outcome_of, two_mapped, greeting_to, both_greeted, none, red_label, green_label, grey}
use Rattle.run_laws.specs.WorkedInput.{moved_to, pressed, key, entered_at, left_at, motion_at, pressed_at, released_at, key_pressed, key_released, clip_asked, configured_to, focus_passes, red_above, told_by, wide_desktop, both_apart, told_apart}
use Rattle.run_laws.proofs.worked.worked_input.Goals as goal

pub returns-clause-click_raises : goal.returns-clause-click_raises
unfolding red whole small_desktop bytes just version window_at posts greeting focus_in focus_out keyboard focused background label blank ring green shared_desktop green_bytes mapped_at outcome_of two_mapped greeting_to both_greeted none red_label green_label grey moved_to pressed key entered_at left_at motion_at pressed_at released_at key_pressed key_released clip_asked configured_to focus_passes red_above told_by wide_desktop both_apart told_apart
returns-clause-click_raises c = refl

pub returns-clause-grab_across_windows : goal.returns-clause-grab_across_windows
unfolding red whole small_desktop bytes just version window_at posts greeting focus_in focus_out keyboard focused background label blank ring green shared_desktop green_bytes mapped_at outcome_of two_mapped greeting_to both_greeted none red_label green_label grey moved_to pressed key entered_at left_at motion_at pressed_at released_at key_pressed key_released clip_asked configured_to focus_passes red_above told_by wide_desktop both_apart told_apart
returns-clause-grab_across_windows c = refl

pub returns-clause-release_after_focus_change : goal.returns-clause-release_after_focus_change
unfolding red whole small_desktop bytes just version window_at posts greeting focus_in focus_out keyboard focused background label blank ring green shared_desktop green_bytes mapped_at outcome_of two_mapped greeting_to both_greeted none red_label green_label grey moved_to pressed key entered_at left_at motion_at pressed_at released_at key_pressed key_released clip_asked configured_to focus_passes red_above told_by wide_desktop both_apart told_apart
returns-clause-release_after_focus_change c = refl

pub returns-clause-next_window : goal.returns-clause-next_window
unfolding red whole small_desktop bytes just version window_at posts greeting focus_in focus_out keyboard focused background label blank ring green shared_desktop green_bytes mapped_at outcome_of two_mapped greeting_to both_greeted none red_label green_label grey moved_to pressed key entered_at left_at motion_at pressed_at released_at key_pressed key_released clip_asked configured_to focus_passes red_above told_by wide_desktop both_apart told_apart
returns-clause-next_window c = refl

pub returns-clause-restored : goal.returns-clause-restored
unfolding red whole small_desktop bytes just version window_at posts greeting focus_in focus_out keyboard focused background label blank ring green shared_desktop green_bytes mapped_at outcome_of two_mapped greeting_to both_greeted none red_label green_label grey moved_to pressed key entered_at left_at motion_at pressed_at released_at key_pressed key_released clip_asked configured_to focus_passes red_above told_by wide_desktop both_apart told_apart
returns-clause-restored c = refl

pub returns-clause-asked_to_close : goal.returns-clause-asked_to_close
unfolding red whole small_desktop bytes just version window_at posts greeting focus_in focus_out keyboard focused background label blank ring green shared_desktop green_bytes mapped_at outcome_of two_mapped greeting_to both_greeted none red_label green_label grey moved_to pressed key entered_at left_at motion_at pressed_at released_at key_pressed key_released clip_asked configured_to focus_passes red_above told_by wide_desktop both_apart told_apart
returns-clause-asked_to_close c = refl

pub returns-clause-resized : goal.returns-clause-resized
unfolding red whole small_desktop bytes just version window_at posts greeting focus_in focus_out keyboard focused background label blank ring green shared_desktop green_bytes mapped_at outcome_of two_mapped greeting_to both_greeted none red_label green_label grey moved_to pressed key entered_at left_at motion_at pressed_at released_at key_pressed key_released clip_asked configured_to focus_passes red_above told_by wide_desktop both_apart told_apart
returns-clause-resized c = refl

pub returns-clause-outside_the_desktop : goal.returns-clause-outside_the_desktop
unfolding red whole small_desktop bytes just version window_at posts greeting focus_in focus_out keyboard focused background label blank ring green shared_desktop green_bytes mapped_at outcome_of two_mapped greeting_to both_greeted none red_label green_label grey moved_to pressed key entered_at left_at motion_at pressed_at released_at key_pressed key_released clip_asked configured_to focus_passes red_above told_by wide_desktop both_apart told_apart
returns-clause-outside_the_desktop c = refl

pub returns-clause-chords_are_kept : goal.returns-clause-chords_are_kept
unfolding red whole small_desktop bytes just version window_at posts greeting focus_in focus_out keyboard focused background label blank ring green shared_desktop green_bytes mapped_at outcome_of two_mapped greeting_to both_greeted none red_label green_label grey moved_to pressed key entered_at left_at motion_at pressed_at released_at key_pressed key_released clip_asked configured_to focus_passes red_above told_by wide_desktop both_apart told_apart
returns-clause-chords_are_kept c = refl
