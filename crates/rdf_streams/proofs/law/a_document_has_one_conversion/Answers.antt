use Rattle.rdf_streams.proofs.ConversionLemmas.One.{cut_off_begin, failed_writes_lack, one_begins_the_other, one_conversion}
use Rattle.rdf_streams.proofs.law.a_document_has_one_conversion.Goals as goal

pub returns-clause-one : goal.returns-clause-one
returns-clause-one c = one_conversion c.each_text_is_one_document.ensures c.what_is_fed_comes_first.ensures c.one_meaning.ensures.document c.one_meaning.ensures.never_both c.one_meaning.ensures.fault

pub returns-clause-cut_off : goal.returns-clause-cut_off
returns-clause-cut_off c = cut_off_begin c.each_text_is_one_document.ensures c.what_is_fed_comes_first.ensures c.one_meaning.ensures.document c.one_meaning.ensures.never_both c.one_meaning.ensures.fault

pub returns-clause-lack : goal.returns-clause-lack
returns-clause-lack c = failed_writes_lack c.each_text_is_one_document.ensures c.what_is_fed_comes_first.ensures c.one_meaning.ensures.document c.one_meaning.ensures.never_both c.one_meaning.ensures.fault

pub returns-clause-beginnings : goal.returns-clause-beginnings
returns-clause-beginnings c = one_begins_the_other c.each_text_is_one_document.ensures c.what_is_fed_comes_first.ensures c.one_meaning.ensures.document c.one_meaning.ensures.never_both c.one_meaning.ensures.fault
