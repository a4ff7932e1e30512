-- What stands past the end of a list.
use Rattle.plan.specs.declared.Record.{Record}
use Rattle.rules.specs.Line.{fed, Message, Entry, Held, Target}

abbrev pub no_record : Record
no_record = record { piece = 0; material = 0; mass = 0 }

abbrev pub no_entry : Entry
no_entry = record { what = no_record; time = 0; origin = fed; before = fed; set = 0 }

abbrev pub no_held : Held
no_held = record { what = no_record; sender = 0; time = 0; before = fed }

abbrev pub no_target : Target
no_target = record { time = 0; parent = 0; parent_time = 0 }

abbrev pub no_message : Message
no_message = record { what = no_record; time = 0; origin = fed }
