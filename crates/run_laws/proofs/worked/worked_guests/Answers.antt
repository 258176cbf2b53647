use Rattle.std.proofs.Common.{refl}
use Rattle.run_laws.specs.WorkedRows.{red, whole, small_desktop, bytes, just, version, focus_in, focus_out, keyboard, focused}
use Rattle.run_laws.specs.WorkedGuests.{green, shared_desktop, desktop_of, green_bytes, mapped_at, outcome_of, two_mapped, greeting_to, both_greeted, none, red_label, green_label, grey, both_windows, green_window, made_full}
use Rattle.run_laws.proofs.worked.worked_guests.Goals as goal

pub returns-clause-two_windows : goal.returns-clause-two_windows
unfolding red whole small_desktop bytes just version focus_in focus_out keyboard focused green shared_desktop desktop_of green_bytes mapped_at outcome_of two_mapped greeting_to both_greeted none red_label green_label grey both_windows green_window made_full
returns-clause-two_windows c = refl

pub returns-clause-one_guest_ends : goal.returns-clause-one_guest_ends
unfolding red whole small_desktop bytes just version focus_in focus_out keyboard focused green shared_desktop desktop_of green_bytes mapped_at outcome_of two_mapped greeting_to both_greeted none red_label green_label grey both_windows green_window made_full
returns-clause-one_guest_ends c = refl

pub returns-clause-override_area_limit : goal.returns-clause-override_area_limit
unfolding red whole small_desktop bytes just version focus_in focus_out keyboard focused green shared_desktop desktop_of green_bytes mapped_at outcome_of two_mapped greeting_to both_greeted none red_label green_label grey both_windows green_window made_full
returns-clause-override_area_limit c = (refl, refl)

pub returns-clause-override_areas_together : goal.returns-clause-override_areas_together
unfolding red whole small_desktop bytes just version focus_in focus_out keyboard focused green shared_desktop desktop_of green_bytes mapped_at outcome_of two_mapped greeting_to both_greeted none red_label green_label grey both_windows green_window made_full
returns-clause-override_areas_together c = refl

pub returns-clause-override_moved_inside : goal.returns-clause-override_moved_inside
unfolding red whole small_desktop bytes just version focus_in focus_out keyboard focused green shared_desktop desktop_of green_bytes mapped_at outcome_of two_mapped greeting_to both_greeted none red_label green_label grey both_windows green_window made_full
returns-clause-override_moved_inside c = refl

pub returns-clause-full_screen_told : goal.returns-clause-full_screen_told
unfolding red whole small_desktop bytes just version focus_in focus_out keyboard focused green shared_desktop desktop_of green_bytes mapped_at outcome_of two_mapped greeting_to both_greeted none red_label green_label grey both_windows green_window made_full
returns-clause-full_screen_told c = refl

pub returns-clause-full_screen_stays : goal.returns-clause-full_screen_stays
unfolding red whole small_desktop bytes just version focus_in focus_out keyboard focused green shared_desktop desktop_of green_bytes mapped_at outcome_of two_mapped greeting_to both_greeted none red_label green_label grey both_windows green_window made_full
returns-clause-full_screen_stays c = refl

pub returns-clause-minimized_is_hidden : goal.returns-clause-minimized_is_hidden
unfolding red whole small_desktop bytes just version focus_in focus_out keyboard focused green shared_desktop desktop_of green_bytes mapped_at outcome_of two_mapped greeting_to both_greeted none red_label green_label grey both_windows green_window made_full
returns-clause-minimized_is_hidden c = refl
