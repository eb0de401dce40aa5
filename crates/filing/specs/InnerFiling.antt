-- An entry by its identifier, its date and its leads, as the code holds them. No public contract rests on this.
use Rattle.std.specs.Prelude.{ℕ, List, Result, Ok, Err}
use Rattle.refusals.specs.declared.Refusal.{Refusal}
use Rattle.refusals.specs.Refusals.{number_of}
use Rattle.fields.specs.Recording.{year_of, month_of, day_of}
use Rattle.index.specs.declared.Date.{Date}
use Rattle.index.specs.Entry.{Entry}
use Rattle.filing.specs.declared.entry.Filed.{Filed}
use Rattle.filing.specs.declared.Indexed.{Indexed}

-- the entry
abbrev pub filed : List ℕ → Date → ℕ → Entry
filed id d leads = record { identifier = id; year = d.year; month = d.month; day = d.day; leads = leads }

abbrev pub filed_as : Filed → Entry
filed_as f = filed f.identifier.now f.date f.leads

-- the date of a record's recording
abbrev pub date_on : List ℕ → Date
date_on r = record { year = year_of r; month = month_of r; day = day_of r }

-- a refusal and nothing else, or how many bytes are in use
abbrev pub indexed : Result ℕ Refusal → Indexed
indexed (Ok used) = record { refusal = 0; used = used }
indexed (Err e) = record { refusal = number_of e; used = 0 }
