-- The code's states between two bytes, as the model has them, and what a step answers, in document 01's words.
use Rattle.std.specs.Prelude.{ℕ, ◌+◌, ◌*◌, ◌-◌, ◌≤◌, Option, None, Some}
use Rattle.octets.specs.Told.{Told, gives, refuses}
use Rattle.utf8.specs.Utf8 as text
use Rattle.utf8.specs.declared.Wait.{Wait}
use Rattle.utf8.specs.declared.Next.{Next}
use Rattle.utf8.specs.declared.Next.TheVariants.{Point, More}
use Rattle.utf8.specs.declared.Stepped.{Stepped}

abbrev pub wait_of : Wait → text.Wait
wait_of w = record { left = w.left; bits = w.bits; least = w.least }

abbrev pub idle_wait : Wait
idle_wait = record { left = 0; bits = 0; least = 0 }

-- The bits so far when `left` bytes are still to come: at most 15 for one byte (32767), 9 for two (511), 3 for three (7). The bound is one
-- inequality that `omega` reads.
pub record Fine (w : Wait) : Type 0 where
  pub left : w.left ≤ 3
  pub bits : w.bits + 504 * w.left ≤ 1519 + 31752 * (2 - w.left)

-- what a step says of a byte: what it gives, or refusal 5 if it may not come there
abbrev pub decoded_told : Option Next → Told Next
decoded_told (Some n) = gives n
decoded_told None = refuses 5

abbrev pub step_told : Stepped → Told Next
step_told r = decoded_told r.answer

-- the same of what the byte does by RFC 3629
abbrev pub next_told : text.Next → Told Next
next_told (text.point c) = gives (Point c)
next_told (text.more w) = gives More
next_told text.bad = refuses 5

-- what is awaited after it, if `w` was before: nothing once a code point has ended; a byte that may not come changes nothing
abbrev pub wait_after : text.Wait → text.Next → text.Wait
wait_after w (text.point c) = text.idle
wait_after w (text.more v) = v
wait_after w text.bad = w

-- the three things that a step answers
abbrev pub stepped_point : ℕ → Stepped
stepped_point c = record { answer = Some (Point c); wait = idle_wait }

abbrev pub stepped_more : Wait → Stepped
stepped_more w = record { answer = Some More; wait = w }

abbrev pub stepped_bad : Wait → Stepped
stepped_bad w = record { answer = None; wait = w }
