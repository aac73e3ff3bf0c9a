mod ParserLaws
mod EntryLaws
