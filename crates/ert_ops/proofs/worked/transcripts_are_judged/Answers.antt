-- What the worked scenarios print, by computation.

use Rattle.std.proofs.Common.{codes, refl}
use Rattle.std.specs.Fmt.{digits}
use Rattle.ert_ops.specs.Texts.{state_text, mode_text, bool_text, info_front, info_middle, info_back}
use Rattle.ert_ops.proofs.worked.transcripts_are_judged.Goals as goal

pub returns : goal.returns
unfolding digits state_text mode_text bool_text info_front info_middle info_back
returns c = record {
  frozen = refl;
  warped = refl;
  fallen = refl;
  finalized = refl;
  volatile = refl;
  too_wide = refl;
  strong = refl;
  gentle = refl;
  conversions = refl;
  rounding = refl;
  cancelling = refl;
  deadlines = refl;
  below_zero = refl;
  in_order = refl;
  one_slot = refl;
  exits = refl;
  orphan = refl;
  by_starting = refl;
  refused_label = refl;
  requests = refl;
  too_late = refl;
  many_requests = refl;
  quiet = refl;
  monitors = refl;
  many_monitors = (codes "monitor 0\nmonitor 1\nmonitor 2\nmonitor 3\nmonitor 4\nmonitor 5\nmonitor 6\nmonitor 7\nmonitor 8\nmonitor 9\nmonitor 10\nmonitor 11\nmonitor 12\nmonitor 13\nmonitor 14\nmonitor 15\nmonitor 16\nmonitor 17\nmonitor 18\nmonitor 19\nmonitor 20\nmonitor 21\nmonitor 22\nmonitor 23\nmonitor 24\nmonitor 25\nmonitor 26\nmonitor 27\nmonitor 28\nmonitor 29\nmonitor 30\nmonitor 31\nmonitor 32\nmonitor 33\nmonitor 34\nmonitor 35\nmonitor 36\nmonitor 37\nmonitor 38\nmonitor 39\nmonitor 40\nmonitor 41\nmonitor 42\nmonitor 43\nmonitor 44\nmonitor 45\nmonitor 46\nmonitor 47\nmonitor 48\nmonitor 49\nmonitor 50\nmonitor 51\nmonitor 52\nmonitor 53\nmonitor 54\nmonitor 55\nmonitor 56\nmonitor 57\nmonitor 58\nmonitor 59\nmonitor 60\nmonitor 61\nmonitor 62\n", refl);
  one_day = refl;
  idle = refl;
  cancelled_once = refl;
  delivered_once = refl;
  orphaned_once = refl;
}
