use Rattle.std.proofs.Common.{refl}
use Rattle.run_laws.specs.WorkedRows.{red, whole, small_desktop, bytes, just, version, window_at, posts, greeting, focus_in, keyboard, focused, background, label, blank, ring}
use Rattle.run_laws.proofs.worked.worked_rows.Goals as goal

pub returns-clause-empty_desktop : goal.returns-clause-empty_desktop
unfolding red whole small_desktop bytes just version window_at posts greeting focus_in keyboard focused background label blank
returns-clause-empty_desktop c = refl

pub returns-clause-one_window : goal.returns-clause-one_window
unfolding red whole small_desktop bytes just version window_at posts greeting focus_in keyboard focused background label blank ring
returns-clause-one_window c = refl

pub returns-clause-window_off_the_corner : goal.returns-clause-window_off_the_corner
unfolding red whole small_desktop bytes just version window_at posts greeting focus_in keyboard focused background label blank
returns-clause-window_off_the_corner c = refl

pub returns-clause-window_created_twice : goal.returns-clause-window_created_twice
unfolding red whole small_desktop bytes just version window_at posts greeting focus_in keyboard focused background label blank
returns-clause-window_created_twice c = refl
